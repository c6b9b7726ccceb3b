use Rattle.std.proofs.Common.{[], sym, subst}
use Rattle.cube_text.specs.Buffered.{Wrote}
use Rattle.cube_text.proofs.Handing.{Wrote-nil}
use Rattle.cube_check.proofs.verdict_text.write_verdict.Goals as goal

pub returns : goal.returns
returns g c =
    let start = g.K.Sink.shows c.args.out.now in
    let begun : Wrote start start [] c.make-buffer.result = subst (λ b. Wrote start start [] b) (sym c.make-buffer.ensures) (Wrote-nil start) in
    c.close.ensures start _ (c.put_verdict.ensures start [] begun)
