-- What contracts see of a ledger and of its passes, and what a pass holds.
use Rattle.std.specs.Prelude.{◌≡◌, ℕ, ◌<◌, List, [], ◌∷◌, ℤ, Option, Some, None}
use Rattle.turn_cell.specs.Rule.{entries_of}
use Rattle.turn_cell.specs.Passes.{CellView, PassView, IsPassOf}
use Rattle.sat_terms.specs.declared.subject.Subject.{Subject}
use Rattle.checkpoint.specs.declared.saved.Saved.{Saved}
use Rattle.prefix_jobs.specs.declared.number.Number.{Number}
use Rattle.region_book.specs.declared.event.Event.{Event}
use Rattle.region_book.specs.Machine.{Pending}
use Rattle.region_book.specs.Machine.{BookState, held_by, AreLegal, pass_of}
use Rattle.region_book.specs.Starts.{start_of}
use Rattle.region_book.specs.Books.{replay}
use Rattle.region_book.specs.Journalled.{BookBasis}

-- A ledger: which cell it is, for how many passes it was made, and the basis of its book.
abbrev pub LedgerView : Type 0
LedgerView = CellView BookBasis

-- A pass: of which cell it is, its number, the events that it has seen, and those of its own.
abbrev pub HandView : Type 0
HandView = PassView Event BookBasis

abbrev pub subject_of : LedgerView → Subject
subject_of l = l.fixed.0

abbrev pub saved_lines_of : LedgerView → Option Saved
saved_lines_of l = l.fixed.1

-- What the events that the pass has seen made of the ledger's start.
abbrev pub seen_state : LedgerView → HandView → BookState
seen_state l p = replay (subject_of l) (saved_lines_of l) p.seen

-- What the pass holds.
abbrev pub held : LedgerView → HandView → List Pending
held l p = held_by p.number (seen_state l p).pending

-- It is a pass of the ledger. Its own events are those of its number that it has seen, and each
-- event that it has seen was legal in its turn.
pub record IsHandOf (l : LedgerView) (p : HandView) : Type 0 where
  pub pass : IsPassOf l p
  pub number : p.number < l.fixed.2
  pub own : p.own ≡ entries_of pass_of p.number p.seen
  pub legal : AreLegal (subject_of l).formula.clauses (subject_of l).shown 1 p.seen
      (start_of (subject_of l) (saved_lines_of l))

-- It is one that holds nothing.
pub record IsFreeHand (l : LedgerView) (p : HandView) : Type 0 where
  pub hand : IsHandOf l p
  pub free : held l p ≡ []

-- What is held where the pass k holds this prefix, if there is one, under the number n, and nothing
-- else.
abbrev pub holding : ℕ → Number → Option (List ℤ) → List Pending
holding k n None = []
holding k n (Some c) = record { number = n; prefix = c; holder = Some k } ∷ []
