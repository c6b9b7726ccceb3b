use Rattle.std.proofs.Common.{◌≡◌, [], sym, subst, rules}
use Rattle.cube_text.specs.Buffered.{Wrote}
use Rattle.cube_text.proofs.Handing.{Wrote-nil}
use Rattle.allsat_run.specs.declared.status.Status.TheVariants.{Finished}
use Rattle.allsat_run.specs.Status.{note_of}
use Rattle.allsat_run.proofs.NoteLemmas.{there_or_front, noted}
use Rattle.allsat_run.proofs.notes.write_note.Goals as goal

pub returns : goal.returns
returns g c =
    let start = g.N.Sink.shows c.args.notes.now in
    let begun : Wrote start start [] c.make-buffer.result = subst (λ b. Wrote start start [] b) (sym c.make-buffer.ensures) (Wrote-nil start) in
    let line = note_of c.args.status.now in
    let unfinished : ¬ (c.args.status.now ≡ Finished) = search rules in
    noted g.N.Sink.shows _ _ _ unfinished
    (there_or_front _ _ line _ (c.close.ensures start line (c.put_note.ensures start [] begun)))
