use Rattle.std.proofs.Common.{codes}
use Rattle.cube_text.proofs.Handing.{Hands-more, Hands-along}
use Rattle.checkpoint.proofs.SavedLines.{variables_more, variables_end}
use Rattle.checkpoint.proofs.saved_text.put_shown.Goals as goal

pub loop-variable-init : goal.loop-variable-init
loop-variable-init g c = c.put.ensures

pub loop-variable-preserved : goal.loop-variable-preserved
loop-variable-preserved g c =
    Hands-along _ _ _ _ _ _ (variables_more (codes "c p show ") c.args.shown.now c.loop-variable.variable-index _ c.loop-variable-test.true c.from.ensures)
    (Hands-more _ _ _ _ _ _ _ _ c.loop-variable.invariant (Hands-more _ _ _ _ _ _ _ _ c.put_number.ensures c.put-in-loop-variable.ensures))

pub returns : goal.returns
returns g c =
    Hands-along _ _ _ _ _ _ (variables_end (codes "c p show ") c.args.shown.now c.loop-variable.variable-index c.loop-variable-test.false)
    (Hands-more _ _ _ _ _ _ _ _ c.loop-variable.invariant c.put-2.ensures)
