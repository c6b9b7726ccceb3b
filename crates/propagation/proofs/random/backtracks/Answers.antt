use Rattle.propagation.proofs.Settled.{settled_back}
use Rattle.propagation.proofs.random.backtracks.Goals as goal

pub runs_right-requires-clause-settled : goal.runs_right-requires-clause-settled
runs_right-requires-clause-settled c =
    settled_back c.args.arena.now.clauses c.args.propagator.now c.args.trail.now c.backtrack.new.self c.args.level c.requires.settled c.backtrack.ensures.variables c.backtrack.ensures.items c.backtrack.ensures.level c.backtrack.ensures.seen
