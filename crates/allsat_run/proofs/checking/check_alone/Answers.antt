use Rattle.std.proofs.Common.{sym, subst}
use Rattle.allsat_run.specs.Checking.{ChecksInput}
use Rattle.allsat_run.proofs.CheckEnds.{check_read}
use Rattle.allsat_run.proofs.checking.check_alone.Goals as goal

pub returns-clause-answers : goal.returns-clause-answers
returns-clause-answers g c =
    check_read g.S.Source.shows g.K.Sink.shows c.args.input.now c.read_input.new.input c.args.out.now c.check_input.new.out c.in-Ok.input
    c.in-Ok.ensures.reads c.in-Ok.ensures.sizes c.in-Ok.ensures.met _ _
    (subst (λ s. ChecksInput g.K.Sink.shows c.in-Ok.input c.args.out.now c.check_input.new.out s) (sym c.alone-2.ensures.status) c.check_input.ensures)
    c.alone-2.ensures.book
