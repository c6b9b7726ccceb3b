use Rattle.std.proofs.Common.{◌≡◌, false, take}
use Rattle.sat_terms.specs.Cubes.{has_literal}
use Rattle.drill.proofs.summary.holds.Given as goal

abbrev pub invariant-loop-other : goal.invariant-loop-other
invariant-loop-other l = has_literal (take l.other-index l.cube) l.lit ≡ false
