-- What the search of an input comes to, before anything is written.
use Rattle.std.specs.Prelude.{◌≡◌, ◌≢◌, ◌⊎◌, ℕ, Option}
use Rattle.dimacs_front.specs.declared.input.Input.{Input}
use Rattle.fault_io.specs.Sinks.{SinkView, TakesFront}
use Rattle.region_book.specs.Machine.{AreLegal}
use Rattle.region_book.specs.Starts.{start_of, CanBegin}
use Rattle.region_book.specs.Books.{BookView, state_of}
use Rattle.region_book.specs.Arranged.{ArrangedView, IsArranged}
use Rattle.region_book.specs.Journalled.{basis_of}
use Rattle.region_ledger.specs.Hands.{LedgerView}
use Rattle.worker_loop.specs.Sweeps.{AreUnheld, IsAllowed}
use Rattle.allsat_run.specs.declared.status.Status.{Status}
use Rattle.allsat_run.specs.declared.status.Status.TheVariants.{Finished, BudgetSpent, OutOfMemory, WriteFault}
use Rattle.allsat_run.specs.Run.{IsBookOf, SaysOfBook, IsTooSmall, IsWritten, book_text}

-- how a search can end
abbrev pub CanEnd : Option ℕ → Input → Status → Type 0
CanEnd budget input Finished = Unit {0}
CanEnd budget input BudgetSpent = IsTooSmall budget input
CanEnd budget input OutOfMemory = Unit {0}
CanEnd budget input status = ⊥

-- The search of a book has ended so: it is of what it was, its events were legal from there, its
-- lists are what they made, in order, and nobody holds a prefix. If no more leaves were spent than
-- are allowed, it is so still. The status says of it what it says of a book that is to be written.
pub record EndsSearch (old : BookView) (budget : Option ℕ) (status : Status) (a : ArrangedView) :
    Type 0 where
  pub subject : a.book.subject ≡ old.subject
  pub saved : a.book.saved ≡ old.saved
  pub begins : CanBegin a.book.subject a.book.saved a.book.passes
  pub legal : AreLegal a.book.subject.formula.clauses a.book.subject.shown 1 a.book.journal
      (start_of a.book.subject a.book.saved)
  pub arranged : IsArranged a
  pub unheld : AreUnheld a.pending
  pub allowed : IsAllowed budget (state_of old).spent → IsAllowed budget (state_of a.book).spent
  pub says : SaysOfBook budget status a
  pub unwritten : status ≢ WriteFault

-- The ledger was closed, and the search of its book has ended so.
pub record EndsShared (l : LedgerView) (budget : Option ℕ) (status : Status) (a : ArrangedView) :
    Type 0 where
  pub closed : BookView
  pub basis : basis_of closed ≡ l.fixed
  pub ends : EndsSearch closed budget status a

-- The book of an input, and how its search has ended.
pub record Searches (input : Input) (budget : Option ℕ) (status : Status) (a : ArrangedView) :
    Type 0 where
  pub book : IsBookOf input a
  pub says : SaysOfBook budget status a
  pub ends : CanEnd budget input status

-- the text of the book is written, or a front of it is out and then the output failed
abbrev pub WritesBook : SinkView → SinkView → Status → ArrangedView → Status → Type 0
WritesBook before now status a status' =
    ((status' ≡ WriteFault) × TakesFront before now (book_text a))
    ⊎ ((status' ≡ status) × IsWritten before now (book_text a))
