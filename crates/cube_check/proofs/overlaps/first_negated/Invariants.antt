use Rattle.std.proofs.Common.{◌≡◌, List, ℤ, take, false}
use Rattle.sat_terms.specs.Cubes.{apart}
use Rattle.cube_check.specs.Marks.{AreMarked}
use Rattle.cube_check.proofs.overlaps.first_negated.Given as goal

abbrev pub invariant-loop-place : goal.invariant-loop-place
invariant-loop-place l = (c : List ℤ) → AreMarked l.marks c → apart (take l.from l.lits) c ≡ false → apart (take l.place l.lits) c ≡ false
