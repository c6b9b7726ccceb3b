use Rattle.std.proofs.Common.{ap, subst, ◌∙◌, sym}
use Rattle.region_book.specs.declared.event.Event.TheVariants.{Release, Report}
use Rattle.region_book.specs.Books.{BookView, state_of}
use Rattle.live_engine.specs.Engines.{EngineView}
use Rattle.worker_loop.specs.Jobs.{HoldsOnly}
use Rattle.worker_loop.proofs.Steps.{release_spent, release_frees, grows_event, report_frees, report_hands}
use Rattle.worker_loop.proofs.sweeping.hand_in.Goals as goal

pub returns-in-Err-report-clause-spent : goal.returns-in-Err-report-clause-spent
returns-in-Err-report-clause-spent c =
    release_spent c.report.new.self c.release.new.self c.args.number c.release.ensures
    ∙ ap (λ (b : BookView). (state_of b).spent) c.in-Err-report.ensures.unchanged

pub returns-in-Err-report-clause-rests : goal.returns-in-Err-report-clause-rests
returns-in-Err-report-clause-rests c =
    let old = c.args.book.now in
    let n = c.args.number in
    let same = c.in-Err-report.ensures.unchanged in
    record {
      unheld = release_frees c.report.new.self c.release.new.self n c.release.ensures c.requires.job.prefix (subst (λ (b : BookView). HoldsOnly 0 n c.requires.job.prefix (state_of b).pending) (sym same) c.requires.job.holds);
      idle = ap (λ (e : EngineView). e.job) c.in-Ok.ensures.ended;
      same =
          ap (λ (e : EngineView). e.subject) c.in-Ok.ensures.ended ∙ c.requires.job.same ∙ ap (λ (b : BookView). b.subject) (sym same)
          ∙ sym (grows_event c.report.new.self c.release.new.self (Release 0 n) c.release.ensures).subject;
    }

pub returns-clause-reports : goal.returns-clause-reports
returns-clause-reports c =
    report_hands c.args.book.now c.report.new.self c.args.number c.in-Ok.outcome c.args.engine.now c.requires.job c.in-Ok.ensures.outcome c.in_default.ensures.reports.event
    c.in-Ok.ensures.fits

pub returns-clause-rests : goal.returns-clause-rests
returns-clause-rests c =
    let old = c.args.book.now in
    let new = c.report.new.self in
    let n = c.args.number in
    let event = c.in_default.ensures.reports.event in
    record {
      unheld = report_frees old new n c.in-Ok.outcome c.args.engine.now c.requires.job c.in-Ok.ensures.outcome event;
      idle = ap (λ (e : EngineView). e.job) c.in-Ok.ensures.ended;
      same = ap (λ (e : EngineView). e.subject) c.in-Ok.ensures.ended ∙ c.requires.job.same ∙ sym (grows_event old new (Report 0 n c.in-Ok.outcome) event).subject;
    }
