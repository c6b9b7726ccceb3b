use Rattle.std.proofs.Common.{◌≡◌}
use Rattle.live_engine.specs.Searching.{IsSearching, KeepsLeaves, left}
use Rattle.live_engine.proofs.search.Search.next_leaf.Given as goal

abbrev pub invariant-loop-id : goal.invariant-loop-id
invariant-loop-id l = record {
  searching : IsSearching l.self;
  keeps : KeepsLeaves l.initial.self l.self;
  spare : l.spare ≡ l.initial.spare;
}

abbrev pub decreases-loop-id : goal.decreases-loop-id
decreases-loop-id l = left l.self
