use Rattle.std.proofs.Common.{◌≡◌, drop}
use Rattle.dimacs_front.specs.MachineEnd.{first_name_above}
use Rattle.dimacs_front.proofs.show_lines.ShowLines.first_above.Given as goal

abbrev pub invariant-loop-name : goal.invariant-loop-name
invariant-loop-name l = first_name_above l.variables l.self ≡ first_name_above l.variables (drop l.name-index l.self)
