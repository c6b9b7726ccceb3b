use Rattle.std.proofs.Common.{take}
use Rattle.plain_search.specs.Walks.{AreSet}
use Rattle.plain_search.proofs.decide.first_free_shown.Given as goal

abbrev pub invariant-loop-place : goal.invariant-loop-place
invariant-loop-place l = AreSet l.trail.items (take l.place l.shown)
