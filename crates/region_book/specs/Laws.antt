-- The laws of a book's events.
use Rattle.std.specs.Prelude.{◌≡◌, true, ℕ, ◌+◌, ◌≤◌, ◌^◌, nat_eq, List, [], ◌∷◌, filter, length, ℤ, Option, Some, None}
use Rattle.std.specs.List.{All, AllPairs}
use Rattle.std.specs.List.Sorted.{IsSorted, IsPermutation}
use Rattle.sat_terms.specs.Cubes.{IsCube}
use Rattle.sat_terms.specs.CubeOrder.{cube_order}
use Rattle.sat_terms.specs.RightList.{IsRightList}
use Rattle.search_job.specs.Weights.{weights}
use Rattle.prefix_jobs.specs.declared.number.Number.{Number}
use Rattle.prefix_jobs.specs.Numbers.{is_before}
use Rattle.region_book.specs.declared.event.Event.{Event}
use Rattle.region_book.specs.Machine.{Pending}
use Rattle.region_book.specs.Machine.{BookState, prefixes_of, has_number, held_by, steps_from, start_from, AreLegal, pass_of}
use Rattle.region_book.specs.Partition.{IsPartition}
use Rattle.region_book.specs.Starts.{start_of, CanBegin}
use Rattle.region_book.specs.Books.{state_of}
use Rattle.region_book.specs.Arranged.{ArrangedView, IsArranged}
use Rattle.sat_terms.specs.declared.subject.Subject.{Subject}
use Rattle.checkpoint.specs.declared.saved.Saved.{Saved}

-- What the events made is a partition, and what was spent is paid for by what was pending.
pub record KeepsPartition (f : List (List ℤ)) (p : List ℕ) (u : List ℤ)
    (old new : BookState) : Type 0 where
  pub partition : IsPartition f p u new.published (prefixes_of new.pending)
  pub paid : new.spent + weights (length p) (prefixes_of new.pending) ≤
      old.spent + weights (length p) (prefixes_of old.pending)

-- The given literals as the one prefix are a partition, of which nothing is found yet.
abbrev pub StartIsPartition : Type 0
StartIsPartition =
    (f : List (List ℤ)) (p : List ℕ) (u : List ℤ) → IsCube p u → IsPartition f p u [] (u ∷ [])

-- Legal events make a partition of a partition.
abbrev pub EventsKeepPartition : Type 0
EventsKeepPartition =
    (f : List (List ℤ)) (p : List ℕ) (u : List ℤ) (j : ℕ) (events : List Event) (s : BookState) →
    IsPartition f p u s.published (prefixes_of s.pending) → AreLegal f p j events s →
    KeepsPartition f p u s (steps_from j events s)

-- Where nothing is pending, the published cubes are the right list, once they are sorted.
abbrev pub NothingPendingIsRight : Type 0
NothingPendingIsRight =
    (f : List (List ℤ)) (p : List ℕ) (u : List ℤ) (published cubes : List (List ℤ)) →
    IsCube p u → IsPartition f p u published [] → IsPermutation published cubes →
    IsSorted cube_order cubes → IsRightList f p u cubes

-- Events of other passes, legal or not, leave what a pass holds.
abbrev pub OthersKeep : Type 0
OthersKeep =
    (k j : ℕ) (events : List Event) (s : BookState) →
    filter (λ e. nat_eq (pass_of e) k) events ≡ [] →
    held_by k (steps_from j events s).pending ≡ held_by k s.pending

-- No two prefixes have one number, and the places of the numbers are those of the events.
pub record AreNumbered (pending : List Pending) (count : ℕ) : Type 0 where
  pub once : (n : Number) → length (filter (has_number n) pending) ≤ 1
  pub placed : All (λ q. q.number.place ≤ count) pending

-- So it is after any events, legal or not.
abbrev pub NumbersAreDistinct : Type 0
NumbersAreDistinct =
    (cubes prefixes : List (List ℤ)) (events : List Event) →
    AreNumbered (steps_from 1 events (start_from cubes prefixes)).pending (length events)

-- Pending prefixes stand by rising number, after any events, legal or not.
abbrev pub PendingNumbersRise : Type 0
PendingNumbersRise =
    (cubes prefixes : List (List ℤ)) (events : List Event) →
    AllPairs (λ q r. is_before q.number r.number ≡ true)
    (steps_from 1 events (start_from cubes prefixes)).pending

-- The start is a partition: nothing was saved, or the saved lines are one.
abbrev pub BeginsWhole : Subject → Option Saved → Type 0
BeginsWhole s None = Unit {0}
BeginsWhole s (Some saved) =
    IsPartition s.formula.clauses s.shown s.under saved.cubes saved.pending

-- The published cubes and the pending prefixes are a partition. The leaves spent, and all
-- assignments that the prefixes hold, are no more than the shown variables have. Where nothing is
-- pending, the published cubes are the right list.
pub record IsWhole (s : Subject) (spent : ℕ) (published pending : List (List ℤ)) : Type 0 where
  pub partition : IsPartition s.formula.clauses s.shown s.under published pending
  pub paid : spent + weights (length s.shown) pending ≤ 2 ^ length s.shown
  pub right : pending ≡ [] → IsRightList s.formula.clauses s.shown s.under published

-- So is an arranged book of a start that is a partition.
abbrev pub ArrangedIsWhole : Type 0
ArrangedIsWhole =
    (a : ArrangedView) → CanBegin a.book.subject a.book.saved a.book.passes → IsArranged a →
    AreLegal a.book.subject.formula.clauses a.book.subject.shown 1 a.book.journal
    (start_of a.book.subject a.book.saved) →
    BeginsWhole a.book.subject a.book.saved →
    IsWhole a.book.subject (state_of a.book).spent a.published (prefixes_of a.pending)
