use Rattle.std.proofs.Common.{◌≡◌, ◌-◌, length}
use Rattle.propagation.specs.Steps.{Propagates}
use Rattle.propagation.specs.Walking.{IsReady}
use Rattle.propagation.proofs.walking.follow.Given as goal

abbrev pub invariant-loop-trail : goal.invariant-loop-trail
invariant-loop-trail l = record {
  ready : IsReady l.arena.clauses l.watches l.trail;
  steps : Propagates l.arena.clauses l.initial.trail.items l.trail.items;
  level : l.trail.level ≡ l.initial.trail.level;
  variables : l.trail.variables ≡ l.initial.trail.variables;
  places : length l.watches.lits ≡ length l.initial.watches.lits;
}

abbrev pub decreases-loop-trail : goal.decreases-loop-trail
decreases-loop-trail l = l.trail.variables - l.trail.seen
