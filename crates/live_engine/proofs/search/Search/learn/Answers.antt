use Rattle.std.proofs.Common.{ap}
use Rattle.live_engine.proofs.Lessons.{teaches}
use Rattle.live_engine.proofs.search.Search.learn.Goals as goal

pub returns-in-Ok : goal.returns-in-Ok
returns-in-Ok c =
    let old = c.args.self.now in
    teaches old c.requires.searching.ground (record old { arena = c.add.new.self; analyser = c.analyse-learnt.follows.lender-at-none }) c.add.new.self c.args.id c.in-Ok.id c.analyse-learnt.result.lits.now
    c.analyse-learnt.result.conflict_level c.analyse-learnt.result.rest_level c.analyse-learnt.result.asserts c.level_below-level.result
    c.analyse-learnt.ensures.learnt c.level_below-level.ensures c.in-Ok.ensures.id c.in-Ok.ensures.clauses c.in-Ok.ensures.base
    (ap (λ n. record old { arena = c.add.new.self; analyser = n }) c.analyse-learnt.follows.holds-at-none)
