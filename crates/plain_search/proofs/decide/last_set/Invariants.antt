use Rattle.plain_search.specs.Walks.{AreSetUpto}
use Rattle.plain_search.proofs.decide.last_set.Given as goal

abbrev pub invariant-loop-below : goal.invariant-loop-below
invariant-loop-below l = AreSetUpto l.trail.items l.below
