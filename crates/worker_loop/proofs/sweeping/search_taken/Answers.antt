use Rattle.std.proofs.Common.{ap, subst, ◌∙◌, sym}
use Rattle.region_book.specs.declared.event.Event.TheVariants.{Release}
use Rattle.region_book.specs.Books.{state_of}
use Rattle.live_engine.specs.Engines.{EngineView}
use Rattle.worker_loop.specs.Sweeps.{IsAllowed}
use Rattle.worker_loop.proofs.Allowances.{unspent_allowed}
use Rattle.worker_loop.proofs.Steps.{release_spent, release_frees, grows_event}
use Rattle.worker_loop.proofs.sweeping.search_taken.Goals as goal

pub returns-in-Err-clause-allowed : goal.returns-in-Err-clause-allowed
returns-in-Err-clause-allowed c =
    let old = c.args.book.now in
    let new = c.release.new.self in
    subst (IsAllowed c.args.allowance) (sym (release_spent old new c.args.number c.release.ensures))
    (unspent_allowed c.args.allowance (state_of old).spent c.requires.unspent)

pub returns-in-Err-clause-rests : goal.returns-in-Err-clause-rests
returns-in-Err-clause-rests c =
    let old = c.args.book.now in
    let new = c.release.new.self in
    let n = c.args.number in
    let idle = c.in-Err.ensures.unchanged in
    record {
      unheld = release_frees old new n c.release.ensures c.args.prefix.now c.requires.holds;
      idle = ap (λ (e : EngineView). e.job) idle ∙ c.requires.idle;
      same = ap (λ (e : EngineView). e.subject) idle ∙ c.requires.same ∙ sym (grows_event old new (Release 0 n) c.release.ensures).subject;
    }
