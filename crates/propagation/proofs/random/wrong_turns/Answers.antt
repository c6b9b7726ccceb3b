use Rattle.std.proofs.Common.{subst}
use Rattle.std.specs.List.{All}
use Rattle.sat_terms.specs.Literals.{IsLiteralOf}
use Rattle.propagation.proofs.Settled.{settled_unseen}
use Rattle.propagation.proofs.random.wrong_turns.Goals as goal

pub loop-init : goal.loop-init
loop-init c = record {
  six = c.in_ok-trail.ensures.variables;
  own = c.in_ok-propagator.ensures.variables;
  clauses = subst (λ n. All (All (IsLiteralOf n)) c.in_ok-arena.arena.clauses) c.in_ok-formula.ensures.variables c.in_ok-arena.ensures;
  settled = settled_unseen c.in_ok-arena.arena.clauses c.in_ok-propagator.propagator c.in_ok-trail.trail c.in_ok-propagator.ensures.watches c.in_ok-trail.ensures.seen;
}
