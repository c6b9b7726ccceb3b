use Rattle.std.proofs.Common.{◌<◌, arith}
use Rattle.live_engine.proofs.Others.{back_named, back_free, flipped}
use Rattle.live_engine.proofs.search.Search.flip.Goals as goal

pub put_other-requires-clause-named : goal.put_other-requires-clause-named
put_other-requires-clause-named c =
    (back_named c.args.self.now c.args.level c.take_back-decision.result c.requires.ground c.take_back-decision.ensures.decided).0

pub put_other-requires-clause-of : goal.put_other-requires-clause-of
put_other-requires-clause-of c =
    let low = (back_named c.args.self.now c.args.level c.take_back-decision.result c.requires.ground c.take_back-decision.ensures.decided).1 in
    let same = c.take_back-decision.ensures.variables in omega arith

pub put_other-requires-clause-free : goal.put_other-requires-clause-free
put_other-requires-clause-free c =
    back_free c.args.self.now c.take_back-decision.new.self.trail.items c.args.level c.take_back-decision.result c.requires.ground
    (let some = c.requires.some in let above : 0 < c.args.level = omega arith in above) c.take_back-decision.ensures.decided c.take_back-decision.ensures.items

pub returns : goal.returns
returns c =
    flipped c.args.self.now c.take_back-decision.new.self c.put_other.new.self c.args.level c.take_back-decision.result c.put_other.result c.requires.ground
    c.take_back-decision.ensures c.put_other.ensures
