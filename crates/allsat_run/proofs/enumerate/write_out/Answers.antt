use Rattle.std.proofs.Common.{refl, sym, subst, ◌∙◌, inl}
use Rattle.fault_io.specs.Sinks.{TakesFront}
use Rattle.allsat_run.specs.Run.{book_text}
use Rattle.allsat_run.proofs.WriteEnds.{write_fails, finish_fails}
use Rattle.allsat_run.proofs.enumerate.write_out.Goals as goal
use Rattle.allsat_run.proofs.enumerate.write_out.Goals.{then-is_err-via-then-is_err, then-is_err-via-else-is_err+then-is_err-2}

pub returns-then-is_err-clause-written : goal.returns-then-is_err-clause-written
returns-then-is_err-clause-written g c =
    let before = g.K.Sink.shows c.args.out.now in
    let text = book_text c.args.searched.book in
    elim c.then-is_err.branch [
      | then-is_err-via-then-is_err w ↦
          inl (
            refl,
            subst (λ out. TakesFront before (g.K.Sink.shows out) text) (sym w.out-is)
                (write_fails _ _ text c.write_text.result c.write_text.ensures.written (sym c.is_err.ensures.value ∙ w.if-is_err.true)),
          )
      | then-is_err-via-else-is_err+then-is_err-2 w ↦
          inl (
            refl,
            subst (λ out. TakesFront before (g.K.Sink.shows out) text) (sym w.out-is)
                (finish_fails _ _ _ text c.write_text.result w.finish.result c.write_text.ensures.written (sym c.is_err.ensures.value ∙ w.if-is_err.false)
                w.finish.ensures (sym w.is_err-else-is_err.ensures.value ∙ w.if-is_err-2.true)),
          )
    ]
