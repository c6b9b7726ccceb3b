use Rattle.std.proofs.Common.{◌≤◌, ◌++◌, List, ℤ, take}
use Rattle.std.specs.List.{All}
use Rattle.sat_terms.specs.Stamps.{AreStamped}
use Rattle.cube_check.proofs.marks.stamp_literals.Given as goal

abbrev pub invariant-loop-lit : goal.invariant-loop-lit
invariant-loop-lit l = record {
  more : (c : List ℤ) → AreStamped l.initial.stamps l.stamp c → AreStamped l.stamps l.stamp (c ++ take l.lit-index l.lits);
  older : All (λ s. s ≤ l.stamp) l.stamps;
}
