use Rattle.std.proofs.Common.{◌≡◌, ◌≢◌, false, [], refl, sym, subst}
use Rattle.std.proofs.lemmas.Bool.{both_ways}
use Rattle.allsat_run.specs.declared.status.Status.{Status}
use Rattle.allsat_run.specs.declared.status.Status.TheVariants.{Finished, BudgetSpent, OutOfMemory, WriteFault}
use Rattle.allsat_run.specs.Run.{SaysOfBook}
use Rattle.allsat_run.specs.Searches.{EndsSearch}
use Rattle.allsat_run.proofs.Searches.{ends_search, is_spent_book}
use Rattle.allsat_run.proofs.search.sweep_rest.Goals.{then-is_finished, else-is_finished+then-is_ok, else-is_finished+else-is_ok}
use Rattle.allsat_run.proofs.search.sweep_rest.Goals as goal

pub returns : goal.returns
returns c =
    let budget = c.args.budget in
    let swept = c.sweep_unless-swept in
    let a = c.arrange-book.result in
    let ends_by : (status : Status) → c.if-is_finished.status ≡ status → SaysOfBook budget status a → status ≢ WriteFault → EndsSearch c.args.book budget c.if-is_finished.status a =
    λ status is says unwritten. subst (λ x. EndsSearch c.args.book budget x a) (sym is)
    (ends_search c.args.book swept.new.book budget swept.new.engine status a swept.ensures.grows swept.ensures.rests c.subject-subject.ensures.begins
    c.arrange-book.ensures.book c.arrange-book.ensures.arranged c.arrange-book.ensures.legal swept.ensures.allowed says unwritten) in
    elim c.if-is_finished.branch [
      | then-is_finished w ↦ ends_by Finished w.status-is (w.if-is_finished.ensures.0 refl) (λ e. (let bad : Finished ≡ WriteFault = e in cc))
      | else-is_finished+then-is_ok w ↦
          let some : a.pending ≢ [] = λ none. both_ways false refl (w.if-is_finished.ensures.1 none) in
          let spent = is_spent_book budget swept.new.book swept.result a c.arrange-book.ensures.book c.arrange-book.ensures.arranged some swept.ensures.ends w.if-is_ok.ensures.value in
          ends_by BudgetSpent w.status-is (some, spent) (λ e. (let bad : BudgetSpent ≡ WriteFault = e in cc))
      | else-is_finished+else-is_ok w ↦
          ends_by OutOfMemory w.status-is (λ none. both_ways false refl (w.if-is_finished.ensures.1 none)) (λ e. (let bad : OutOfMemory ≡ WriteFault = e in cc))
    ]
