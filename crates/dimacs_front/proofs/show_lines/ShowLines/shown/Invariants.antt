use Rattle.std.proofs.Common.{◌≡◌, ◌+◌, ◌-◌, ◌≤◌, ◌++◌, not, length}
use Rattle.std.specs.List.{filter, range_with_len}
use Rattle.dimacs_front.specs.Limits.{most_shown}
use Rattle.dimacs_front.specs.MachineEnd.{or_named, names_shown}
use Rattle.dimacs_front.proofs.show_lines.ShowLines.shown.Given as goal

abbrev pub invariant-loop-variable : goal.invariant-loop-variable
invariant-loop-variable l = record {
  kept : names_shown l.given l.self l.variables ≡ l.shown.items
      ++ filter (or_named (not l.given) l.self) (range_with_len l.variable (l.variables + 1 - l.variable));
  room : length l.shown.items ≤ most_shown;
}
