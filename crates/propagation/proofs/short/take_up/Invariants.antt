use Rattle.std.proofs.Common.{◌≡◌, true}
use Rattle.chrono_trail.specs.Trails.{IsTrail}
use Rattle.propagation.specs.Steps.{Propagates}
use Rattle.propagation.specs.Walking.{IsSameBut}
use Rattle.propagation.proofs.Shorts.{MetBelow, HeldBelow}
use Rattle.propagation.proofs.short.take_up.Given as goal

abbrev pub invariant-loop-id : goal.invariant-loop-id
invariant-loop-id l = record {
  trail : IsTrail l.trail.variables l.trail.items l.trail.level;
  steps : Propagates l.arena.clauses l.initial.trail.items l.trail.items;
  same : IsSameBut l.initial.trail l.trail;
  met : MetBelow l.arena.clauses l.trail.items l.id;
  held : l.held ≡ true → HeldBelow l.arena.clauses l.trail.items l.id;
}
