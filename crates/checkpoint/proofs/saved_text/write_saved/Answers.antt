use Rattle.std.proofs.Common.{[], ◌++◌, codes, sym, ap, subst}
use Rattle.dimacs_tokens.specs.Texts.{text_of}
use Rattle.cube_text.specs.Buffered.{Wrote}
use Rattle.cube_text.proofs.Handing.{Wrote-nil, Wrote-along}
use Rattle.checkpoint.specs.SavedText.{subject_lines}
use Rattle.checkpoint.proofs.SavedLines.{saved_is}
use Rattle.checkpoint.proofs.saved_text.write_saved.Goals as goal

pub returns-clause-written : goal.returns-clause-written
returns-clause-written g c =
    let view = c.args.view.now in
    let start = g.K.Sink.shows c.args.out.now in
    let begun : Wrote start start [] c.make-buffer.result = subst (λ b. Wrote start start [] b) (sym c.make-buffer.ensures) (Wrote-nil start) in
    let headed = c.put.ensures start [] begun in
    let subject = Wrote-along _ _ _ _ _ (ap (λ s. codes "c allsat saved 2\n" ++ text_of (subject_lines s)) c.subject.ensures) (c.put_subject.ensures start _ headed) in
    let found = c.put_found.ensures start _ subject in
    let pending = c.put_pending.ensures.lines start _ found in
    c.close.ensures start _ (Wrote-along _ _ _ _ _ (saved_is (g.V.SavedView.subject_of view) (g.V.CubeList.cubes view) (g.V.SavedView.pending view)) (c.put-2.ensures start _ pending))
