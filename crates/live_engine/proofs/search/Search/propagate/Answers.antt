use Rattle.live_engine.proofs.Moves.{propagated_searches, propagated_keeps, propagated_left}
use Rattle.live_engine.proofs.search.Search.propagate.Goals as goal

pub returns-clause-searching : goal.returns-clause-searching
returns-clause-searching c =
    let e = c.propagate.ensures in
    propagated_searches c.args.self.now c.requires c.propagate.new.self c.propagate.new.trail e.steps e.settled e.level e.variables e.own_variables e.known e.places e.trail

pub returns-clause-keeps : goal.returns-clause-keeps
returns-clause-keeps c = propagated_keeps c.args.self.now c.requires c.propagate.new.self c.propagate.new.trail c.propagate.ensures.steps

pub returns-clause-left : goal.returns-clause-left
returns-clause-left c = propagated_left c.args.self.now c.requires c.propagate.new.self c.propagate.new.trail c.propagate.ensures.steps
