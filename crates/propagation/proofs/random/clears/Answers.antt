use Rattle.propagation.proofs.Settled.{settled_clear}
use Rattle.propagation.proofs.random.clears.Goals as goal

pub runs_right-requires-clause-settled : goal.runs_right-requires-clause-settled
runs_right-requires-clause-settled c =
    settled_clear c.args.arena.now.clauses c.args.propagator.now c.args.trail.now c.clear.new.self c.requires.settled c.clear.ensures.seen
