use Rattle.std.proofs.Common.{◌≡◌, length}
use Rattle.sat_terms.specs.CubeOrder.{key}
use Rattle.watch_lists.specs.Views.{list_of}
use Rattle.propagation.specs.Steps.{Propagates}
use Rattle.propagation.specs.Walking.{IsSameBut}
use Rattle.propagation.proofs.Lists.{IsWalking, to_go}
use Rattle.propagation.proofs.walking.walk.Given as goal

abbrev pub invariant-loop-at : goal.invariant-loop-at
invariant-loop-at l = record {
  walking : IsWalking l.arena.clauses l.watches l.trail l.lit l.at;
  steps : Propagates l.arena.clauses l.initial.trail.items l.trail.items;
  same : IsSameBut l.initial.trail l.trail;
  places : length l.watches.lits ≡ length l.initial.watches.lits;
}

abbrev pub decreases-loop-at : goal.decreases-loop-at
decreases-loop-at l = to_go (list_of l.watches (key l.lit)) l.at
