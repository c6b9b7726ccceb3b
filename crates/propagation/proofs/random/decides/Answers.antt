use Rattle.std.proofs.Common.{arith}
use Rattle.propagation.proofs.Settled.{settled_push}
use Rattle.propagation.proofs.random.decides.Goals as goal

pub runs_right-requires-2-clause-settled : goal.runs_right-requires-2-clause-settled
runs_right-requires-2-clause-settled c =
    settled_push c.args.arena.now.clauses c.args.propagator.now c.args.trail.now c.decide.new.self _ c.requires.settled c.decide.ensures.variables c.decide.ensures.items (let level = c.decide.ensures.level in omega arith) c.decide.ensures.seen
