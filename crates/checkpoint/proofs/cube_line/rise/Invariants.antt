use Rattle.std.proofs.Common.{◌≡◌, drop}
use Rattle.sat_terms.specs.Cubes.{rises_above}
use Rattle.checkpoint.proofs.cube_line.rise.Given as goal

abbrev pub invariant-loop-number : goal.invariant-loop-number
invariant-loop-number l =
    rises_above 0 l.numbers ≡ rises_above l.last (drop l.number-index l.numbers)
