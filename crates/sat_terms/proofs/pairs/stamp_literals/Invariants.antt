use Rattle.std.proofs.Common.{◌≤◌, take}
use Rattle.std.specs.List.{All}
use Rattle.sat_terms.specs.Stamps.{AreStamped}
use Rattle.sat_terms.proofs.pairs.stamp_literals.Given as goal

abbrev pub invariant-loop-lit : goal.invariant-loop-lit
invariant-loop-lit l = record {
  literals : AreStamped l.stamps l.stamp (take l.lit-index l.clause);
  stamped : All (λ s. s ≤ l.stamp) l.stamps;
}
