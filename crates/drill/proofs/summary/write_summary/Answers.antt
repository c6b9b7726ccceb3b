use Rattle.std.proofs.Common.{[], sym, subst}
use Rattle.cube_text.specs.Buffered.{Wrote}
use Rattle.cube_text.proofs.Handing.{Wrote-nil, Wrote-along}
use Rattle.drill.specs.Summaries.{fixed_literals}
use Rattle.drill.proofs.Choices.{summary_is}
use Rattle.drill.proofs.summary.write_summary.Goals as goal

pub returns : goal.returns
returns g c =
    let start = g.K.Sink.shows c.args.out.now in
    let begun : Wrote start start [] c.make-buffer.result = subst (λ b. Wrote start start [] b) (sym c.make-buffer.ensures) (Wrote-nil start) in
    let headed = c.put.ensures start [] begun in
    let fixed = c.put_fixed.ensures start _ headed in
    c.close.ensures start _ (Wrote-along _ _ _ _ _ (summary_is (fixed_literals (g.L.CubeList.cubes c.args.cubes.now))) (c.put-2.ensures start _ fixed))
