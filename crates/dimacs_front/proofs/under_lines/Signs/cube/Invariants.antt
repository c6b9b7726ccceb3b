use Rattle.std.proofs.Common.{◌≡◌, ◌++◌, drop}
use Rattle.std.specs.Prelude.{flat_map}
use Rattle.dimacs_front.specs.MachineUnder.{signed}
use Rattle.dimacs_front.proofs.under_lines.Signs.cube.Given as goal

abbrev pub invariant-loop-variable : goal.invariant-loop-variable
invariant-loop-variable l =
    flat_map (signed l.self.positive l.self.negative) l.shown ≡
    l.lits.items ++ flat_map (signed l.self.positive l.self.negative) (drop l.variable-index l.shown)
