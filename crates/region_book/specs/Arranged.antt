-- What contracts see of a book whose lists are in order.
use Rattle.std.specs.Prelude.{◌≡◌, ℕ, List, map, ℤ, Option}
use Rattle.std.specs.List.Sorted.{IsPermutation, IsSorted}
use Rattle.std.specs.declared.cmp.Ordering.{Ordering}
use Rattle.sat_terms.specs.CubeOrder.{cube_order}
use Rattle.sat_terms.specs.declared.subject.Subject.{Subject}
use Rattle.checkpoint.specs.declared.saved.Saved.{Saved}
use Rattle.cube_merge.specs.declared.name.CubeName.{CubeName}
use Rattle.region_book.specs.declared.event.Event.{Event}
use Rattle.region_book.specs.declared.slot.Slot.{Slot}
use Rattle.region_book.specs.Machine.{Pending}
use Rattle.region_book.specs.Found.{named_cubes}
use Rattle.region_book.specs.Machine.{AreLegal}
use Rattle.region_book.specs.Prefixes.{prefix_at}
use Rattle.region_book.specs.Slots.{pending_of}
use Rattle.region_book.specs.Starts.{start_of}
use Rattle.region_book.specs.Books.{BookView, book_of, replay, state_of}

-- The book that it was, and its lists as they are now.
pub record ArrangedView : Type 0 where
  pub book : BookView
  pub published : List (List ℤ)
  pub pending : List Pending

abbrev pub arranged_view : Subject → Option Saved → ℕ → List Event → List CubeName → List Slot →
    ArrangedView
arranged_view subject saved passes journal names slots = record {
  book = book_of subject saved passes journal;
  published = named_cubes saved journal names;
  pending = map (pending_of (prefix_at subject saved journal)) slots;
}

-- Pending prefixes are ordered by their literals.
abbrev pub prefix_order : Pending → Pending → Ordering
prefix_order q r = cube_order q.prefix r.prefix

-- The lists have just what the events made, in order.
pub record IsArranged (a : ArrangedView) : Type 0 where
  pub published : IsPermutation (state_of a.book).published a.published
  pub pending : IsPermutation (state_of a.book).pending a.pending
  pub published_sorted : IsSorted cube_order a.published
  pub pending_sorted : IsSorted prefix_order a.pending

-- What an arranged book keeps.
pub record KeepsArranged (subject : Subject) (saved : Option Saved) (passes : ℕ)
    (journal : List Event) (names : List CubeName) (slots : List Slot) (spent : ℕ) : Type 0 where
  pub arranged : IsArranged (arranged_view subject saved passes journal names slots)
  pub legal : AreLegal subject.formula.clauses subject.shown 1 journal (start_of subject saved)
  pub spends : spent ≡ (replay subject saved journal).spent
