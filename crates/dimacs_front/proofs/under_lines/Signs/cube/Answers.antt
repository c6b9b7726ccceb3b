use Rattle.std.proofs.Common.{arith}
use Rattle.dimacs_front.proofs.UnderSteps.{made_rise, made_literals}
use Rattle.dimacs_front.proofs.under_lines.Signs.cube.Goals as goal

pub from_vec-requires-clause-rising : goal.from_vec-requires-clause-rising
from_vec-requires-clause-rising c =
    made_rise c.args.self.now.positive c.args.self.now.negative c.args.shown.now
    c.loop-variable.variable-index c.loop-variable.lits.items c.loop-variable.invariant
    (omega (arith, c.loop-variable-test.false, c.loop-variable.auto.variable-index-end)) c.requires

pub from_vec-requires-clause-literals : goal.from_vec-requires-clause-literals
from_vec-requires-clause-literals c =
    made_literals c.args.self.now.positive c.args.self.now.negative c.args.shown.now
    c.loop-variable.variable-index c.loop-variable.lits.items c.loop-variable.invariant
    (omega (arith, c.loop-variable-test.false, c.loop-variable.auto.variable-index-end)) c.requires
