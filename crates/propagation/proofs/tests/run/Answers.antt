use Rattle.propagation.proofs.Settled.{settled_unseen}
use Rattle.propagation.proofs.tests.run.Goals as goal

pub propagate-requires-clause-settled : goal.propagate-requires-clause-settled
propagate-requires-clause-settled c =
    settled_unseen c.args.arena.now.clauses c.args.propagator.now c.args.trail.now c.requires.watches c.requires.unseen
