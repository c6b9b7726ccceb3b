-- What contracts see of a book, and what its calls do.
use Rattle.std.specs.Prelude.{◌≡◌, ℕ, false, is_some, is_none, suc, ◌+◌, List, [], ◌∷◌, ◌++◌, length, ℤ, Option, Some, None}
use Rattle.std.specs.List.{All, find}
use Rattle.sat_terms.specs.declared.subject.Subject.{Subject}
use Rattle.checkpoint.specs.declared.saved.Saved.{Saved}
use Rattle.prefix_jobs.specs.declared.number.Number.{Number}
use Rattle.prefix_jobs.specs.declared.outcome.Outcome.{Outcome}
use Rattle.region_book.specs.declared.answers.Taken.{Taken}
use Rattle.region_book.specs.declared.answers.Taken.TheVariants.{Held, Gone}
use Rattle.region_book.specs.declared.answers.Reported.{Reported}
use Rattle.region_book.specs.declared.answers.Progress.{Progress}
use Rattle.region_book.specs.declared.answers.Progress.TheVariants.{Finished, HeldByOthers, Unheld}
use Rattle.region_book.specs.declared.event.Event.{Event}
use Rattle.region_book.specs.declared.event.Event.TheVariants.{Take, Report}
use Rattle.region_book.specs.declared.pages.Pages.{Pages}
use Rattle.region_book.specs.Machine.{Pending}
use Rattle.region_book.specs.Lowest.{IsLowestOf}
use Rattle.region_book.specs.Machine.{BookState, is_free, steps_from, AreLegal}
use Rattle.region_book.specs.Pages.{IsSameState, state_of_pages, ArePages, prefix_of, report_answer}
use Rattle.region_book.specs.Starts.{start_of, CanBegin}

-- What a book began with, and its events.
pub record BookView : Type 0 where
  pub subject : Subject
  pub saved : Option Saved
  pub passes : ℕ
  pub journal : List Event

abbrev pub book_of : Subject → Option Saved → ℕ → List Event → BookView
book_of subject saved passes journal = record {
  subject = subject;
  saved = saved;
  passes = passes;
  journal = journal;
}

abbrev pub book_view : Subject → Option Saved → ℕ → Pages → BookView
book_view subject saved passes pages = book_of subject saved passes pages.journal.items

-- What the events made of the beginning.
abbrev pub replay : Subject → Option Saved → List Event → BookState
replay subject saved events = steps_from 1 events (start_of subject saved)

abbrev pub state_of : BookView → BookState
state_of b = replay b.subject b.saved b.journal

-- The book with one event more.
abbrev pub with_event : Event → BookView → BookView
with_event e b = record b { journal = b.journal ++ e ∷ [] }

-- A book: its events were legal, and the pages are what they made, with a part for each pass and
-- one for what was saved.
pub record IsBook (subject : Subject) (saved : Option Saved) (passes : ℕ)
    (pages : Pages) : Type 0 where
  pub begins : CanBegin subject saved passes
  pub state : IsSameState (replay subject saved pages.journal.items)
      (state_of_pages subject saved pages)
  pub parts : length pages.published ≡ passes + 1
  pub legal : AreLegal subject.formula.clauses subject.shown 1 pages.journal.items
      (start_of subject saved)
  pub kept : ArePages pages

-- The pass k took the prefix c with the number n, or it was gone.
abbrev pub Takes : BookView → BookView → ℕ → Number → Taken → Type 0
Takes old new k n (Held c) =
    (new ≡ with_event (Take k n) old)
    × (prefix_of (find (is_free n) (state_of old).pending) ≡ Some c)
Takes old new k n Gone =
    (new ≡ old) × (find (is_free n) (state_of old).pending ≡ None)

-- The pass k took the prefix with the lowest number that nobody held, or each was held.
abbrev pub TakesLowest : BookView → BookView → ℕ → Option (Number × List ℤ) → Type 0
TakesLowest old new k (Some (n, c)) =
    IsLowestOf (λ q. is_none q.holder) (state_of old).pending n × Takes old new k n (Held c)
TakesLowest old new k None =
    (new ≡ old) × All (λ q. is_none q.holder ≡ false) (state_of old).pending

-- The pass k reported the outcome o of the prefix with the number n.
pub record MakesReport (old new : BookView) (k : ℕ) (n : Number) (o : Outcome)
    (answer : Reported) : Type 0 where
  pub event : new ≡ with_event (Report k n o) old
  pub answers : answer ≡ report_answer (suc (length old.journal)) o (state_of new).spent

-- What is left to be done.
abbrev pub IsProgress : List Pending → Progress → Type 0
IsProgress ps Finished = ps ≡ []
IsProgress ps (Unheld n) = IsLowestOf (λ q. is_none q.holder) ps n
IsProgress ps (HeldByOthers n) =
    All (λ q. is_none q.holder ≡ false) ps × IsLowestOf (λ q. is_some q.holder) ps n
