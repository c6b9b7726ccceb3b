use Rattle.std.proofs.Common.{ap, ◌∙◌, sym}
use Rattle.live_engine.specs.Engines.{EngineView}
use Rattle.region_book.specs.declared.event.Event.TheVariants.{Release}
use Rattle.worker_loop.proofs.Steps.{release_spent, release_frees, grows_event}
use Rattle.worker_loop.proofs.sweeping.give_up.Goals as goal

pub returns-clause-spent : goal.returns-clause-spent
returns-clause-spent c = release_spent c.args.book.now c.release.new.self c.args.number c.release.ensures

pub returns-clause-rests : goal.returns-clause-rests
returns-clause-rests c =
    let old = c.args.book.now in
    let new = c.release.new.self in
    record {
      unheld = release_frees old new c.args.number c.release.ensures c.requires.job.prefix c.requires.job.holds;
      idle = ap (λ (e : EngineView). e.job) c.abandon.ensures;
      same = ap (λ (e : EngineView). e.subject) c.abandon.ensures ∙ c.requires.job.same ∙ sym (grows_event old new (Release 0 c.args.number) c.release.ensures).subject;
    }
