use Rattle.std.proofs.Common.{◌≡◌, false, take}
use Rattle.sat_terms.specs.Cubes.{has_literal}
use Rattle.conflict_analysis.proofs.walk.has.Given as goal

abbrev pub invariant-loop-other : goal.invariant-loop-other
invariant-loop-other l = has_literal (take l.other-index l.clause) l.lit ≡ false
