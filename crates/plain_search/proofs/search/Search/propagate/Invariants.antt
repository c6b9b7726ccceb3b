use Rattle.std.proofs.Common.{◌≤◌}
use Rattle.plain_search.specs.Searching.{work_left, IsListing}
use Rattle.plain_search.proofs.Moves.{HasComeTo}
use Rattle.plain_search.proofs.search.Search.propagate.Given as goal

abbrev pub invariant-loop-place : goal.invariant-loop-place
invariant-loop-place l = record {
  searching : IsListing l.subject l.self;
  left : work_left l.subject l.self ≤ work_left l.subject l.initial.self;
  outcome : HasComeTo l.subject l.initial.self l.self l.place l.propagated;
}
