use Rattle.std.proofs.Common.{ap, length, arith}
use Rattle.dimacs_front.proofs.UnderSteps.{judged}
use Rattle.dimacs_front.proofs.under_lines.UnderLines.cube.Goals as goal

pub returns : goal.returns
returns c =
    let loop = c.loop-given.invariant in
    judged c.loop-given.signs.positive c.loop-given.signs.negative c.args.shown.now c.args.self.now
    c.loop-given.given-index c.in_ok-cube.field-0 loop.signs loop.rest
    (omega (arith, c.loop-given-test.false, c.loop-given.auto.given-index-end, c.deref-given-items.ensures.len, ap (λ gs. length gs) c.self.view_is))
    c.in_ok-cube.ensures c.requires
