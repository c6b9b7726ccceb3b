-- What a call of a ledger does.
use Rattle.std.specs.Prelude.{◌≡◌, ℕ, List, [], ℤ, Option, Some, None, Result, Ok, Err}
use Rattle.std.specs.declared.alloc.AllocError.{AllocError}
use Rattle.turn_cell.specs.Passes.{IsDue}
use Rattle.prefix_jobs.specs.declared.number.Number.{Number}
use Rattle.prefix_jobs.specs.declared.outcome.Outcome.{Outcome}
use Rattle.region_book.specs.declared.answers.Taken.{Taken}
use Rattle.region_book.specs.declared.answers.Taken.TheVariants.{Held, Gone}
use Rattle.region_book.specs.declared.answers.Reported.{Reported}
use Rattle.region_book.specs.declared.event.Event.TheVariants.{Release}
use Rattle.region_book.specs.Machine.{Pending}
use Rattle.region_book.specs.Machine.{AreLegal, pass_of}
use Rattle.region_book.specs.Starts.{start_of, CanBegin}
use Rattle.region_book.specs.Books.{BookView, with_event, Takes, TakesLowest, MakesReport}
use Rattle.region_book.specs.Journalled.{journal_of, basis_of}
use Rattle.region_ledger.specs.Hands.{LedgerView, HandView, holding}

-- The book began as it may, and each of its events was legal in its turn.
pub record IsLegalBook (b : BookView) : Type 0 where
  pub begins : CanBegin b.subject b.saved b.passes
  pub legal : AreLegal b.subject.formula.clauses b.subject.shown 1 b.journal
      (start_of b.subject b.saved)

-- The book is due to the pass: it is of the ledger's basis, its journal begins with what the pass
-- has seen, and has of its number just its own events.
abbrev pub IsDueBook : LedgerView → HandView → BookView → Type 0
IsDueBook l p b = IsDue journal_of pass_of basis_of l p b

-- In a turn the pass p became q: a book was found that is due to p, the call made of it the book
-- that was left, and q has seen the journal of that.
pub record CallsBook (l : LedgerView) (p q : HandView)
    (does : BookView → BookView → Type 0) : Type 0 where
  pub found : BookView
  pub left : BookView
  pub due : IsDueBook l p found
  pub was : IsLegalBook found
  pub is : IsLegalBook left
  pub did : does found left
  pub number : q.number ≡ p.number
  pub seen : q.seen ≡ left.journal

-- What each call does to the book b, and makes c of it. It answers what the book answers.
abbrev pub TakeDoes : ℕ → Number → Result Taken AllocError → BookView → BookView → Type 0
TakeDoes k n (Ok taken) b c = Takes b c k n taken
TakeDoes k n (Err e) b c = c ≡ b

abbrev pub TakeAnyDoes :
    ℕ → Result (Option (Number × List ℤ)) AllocError → BookView → BookView → Type 0
TakeAnyDoes k (Ok taken) b c = TakesLowest b c k taken
TakeAnyDoes k (Err e) b c = c ≡ b

abbrev pub ReportDoes :
    ℕ → Number → Outcome → Result Reported (Outcome × AllocError) → BookView → BookView → Type 0
ReportDoes k n o (Ok said) b c = MakesReport b c k n o said
ReportDoes k n o (Err refused) b c = (c ≡ b) × (refused.0 ≡ o)

abbrev pub ReleaseDoes : ℕ → Number → BookView → BookView → Type 0
ReleaseDoes k n b c = c ≡ with_event (Release k n) b

abbrev pub LookDoes : BookView → BookView → Type 0
LookDoes b c = c ≡ b

-- The prefix that was taken, if it was not gone.
abbrev pub prefix_taken : Taken → Option (List ℤ)
prefix_taken (Held c) = Some c
prefix_taken Gone = None

-- What the pass k holds that held nothing, and then took this.
abbrev pub holding_any : ℕ → Option (Number × List ℤ) → List Pending
holding_any k None = []
holding_any k (Some (n, c)) = holding k n (Some c)
