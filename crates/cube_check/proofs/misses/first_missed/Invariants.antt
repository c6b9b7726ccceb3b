use Rattle.std.proofs.Common.{◌≡◌, List, ℤ, take, true}
use Rattle.std.specs.List.{list_all}
use Rattle.cube_check.specs.Marks.{AreMarked}
use Rattle.cube_check.specs.Verdicts.{is_met_by}
use Rattle.cube_check.proofs.misses.first_missed.Given as goal

abbrev pub invariant-loop-place : goal.invariant-loop-place
invariant-loop-place l = (c : List ℤ) → AreMarked l.marks c → list_all (is_met_by c) (take l.place l.clauses) ≡ true
