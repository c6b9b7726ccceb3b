-- What the pages of a book hold, and what each event makes of them.
use Rattle.std.specs.Prelude.{◌≡◌, false, ℕ, suc, ◌+◌, ◌≤◌, List, [], ◌∷◌, ◌++◌, filter, length, ℤ, Option, Some, None, is_some, vec_capacity}
use Rattle.std.specs.List.{All, find}
use Rattle.std.specs.List.Sorted.{IsPermutation}
use Rattle.sat_terms.specs.declared.subject.Subject.{Subject}
use Rattle.prefix_jobs.specs.declared.number.Number.{Number}
use Rattle.prefix_jobs.specs.declared.outcome.Outcome.{Outcome}
use Rattle.region_book.specs.declared.answers.Taken.{Taken}
use Rattle.region_book.specs.declared.answers.Taken.TheVariants.{Held, Gone}
use Rattle.region_book.specs.declared.answers.Reported.{Reported}
use Rattle.region_book.specs.declared.event.Event.{Event}
use Rattle.region_book.specs.declared.event.Event.TheVariants.{Take, Report}
use Rattle.region_book.specs.declared.pages.Pages.{Pages}
use Rattle.region_book.specs.declared.slot.Slot.{Slot}
use Rattle.checkpoint.specs.declared.saved.Saved.{Saved}
use Rattle.cube_merge.specs.Names.{names_from}
use Rattle.cube_merge.specs.Parts.{all_names}
use Rattle.region_book.specs.Found.{brought_by, named_cubes, AreEntered}
use Rattle.region_book.specs.Machine.{BookState, Pending, is_free, step}
use Rattle.region_book.specs.Prefixes.{prefix_at, NamesLeft}
use Rattle.region_book.specs.Slots.{AreSlots, free_slots, is_held_slot, live_of, stands_held}

-- The machine's state, where these cubes are published, and these prefixes have the numbers.
abbrev pub state_with : (Number → List ℤ) → List (List ℤ) → Pages → BookState
state_with prefixes cubes x = record {
  published = cubes;
  pending = live_of prefixes x.slots.slots.items;
  spent = x.spent;
}

-- The cubes and prefixes are those that stand at the places of the pages.
abbrev pub state_of_pages : Subject → Option Saved → Pages → BookState
state_of_pages subject saved x =
    state_with (prefix_at subject saved x.journal.items)
    (named_cubes saved x.journal.items (all_names x.published)) x

-- Two states are the same, but for the order in which the published cubes are listed.
pub record IsSameState (s t : BookState) : Type 0 where
  pub published : IsPermutation s.published t.published
  pub pending : s.pending ≡ t.pending
  pub spent : s.spent ≡ t.spent

-- How many prefixes are held.
abbrev pub held_slots : List Slot → ℕ
held_slots slots = length (filter stands_held slots)

-- How many prefixes are held, of pending ones.
abbrev pub held_count : List Pending → ℕ
held_count ps = length (filter (λ q. is_some q.holder) ps)

-- The journal has room for the release of each held prefix.
abbrev pub HasReleaseRoom : Pages → Type 0
HasReleaseRoom x =
    length x.journal.items + held_slots x.slots.slots.items ≤ vec_capacity x.journal

-- It has room for an event, and then for the release of each prefix.
abbrev pub HasEventRoom : Pages → Type 0
HasEventRoom x =
    length x.journal.items + (length x.slots.slots.items + 1) ≤ vec_capacity x.journal

-- What pages keep: no cube and no prefix has a place that the journal lacks.
pub record ArePages (x : Pages) : Type 0 where
  pub slots : AreSlots x.slots
  pub placed : All (λ s. s.number.place ≤ length x.journal.items) x.slots.slots.items
  pub entered : AreEntered (length x.journal.items) (all_names x.published)
  pub room : HasReleaseRoom x

-- Nothing has changed but room.
pub record IsSame (old new : Pages) : Type 0 where
  pub journal : new.journal.items ≡ old.journal.items
  pub published : new.published ≡ old.published
  pub slots : new.slots.slots.items ≡ old.slots.slots.items
  pub spent : new.spent ≡ old.spent
  pub pages : ArePages new

-- The event was entered at the next place of the journal, and did what it does: its cubes are
-- published there, in any of the parts, and the prefixes that it leaves are pending there.
pub record Enters (e : Event) (old new : Pages) : Type 0 where
  pub journal : new.journal.items ≡ old.journal.items ++ e ∷ []
  pub parts : length new.published ≡ length old.published
  pub published : IsPermutation (all_names old.published
      ++ names_from (suc (length old.journal.items)) 0 (length (brought_by e)))
      (all_names new.published)
  pub state : (prefixes : Number → List ℤ) (cubes : List (List ℤ)) →
      NamesLeft prefixes (suc (length old.journal.items)) e →
      state_with prefixes (cubes ++ brought_by e) new
      ≡ step (suc (length old.journal.items)) e (state_with prefixes cubes old)
  pub pages : ArePages new

-- The prefix that was found, if one was.
abbrev pub prefix_of : Option Pending → Option (List ℤ)
prefix_of None = None
prefix_of (Some q) = Some q.prefix

-- The pass k took the prefix with the number n, or it was gone.
abbrev pub TakesPrefix : Subject → Option Saved → Pages → Pages → ℕ → Number → Taken → Type 0
TakesPrefix subject saved old new k n (Held c) =
    Enters (Take k n) old new
    × (prefix_of (find (is_free n) (state_of_pages subject saved old).pending) ≡ Some c)
TakesPrefix subject saved old new k n Gone =
    (new ≡ old) × (find (is_free n) (state_of_pages subject saved old).pending ≡ None)

-- Some slot says that the pass k holds the prefix with the number n.
abbrev pub IsHeldIn : ℕ → Number → Pages → Type 0
IsHeldIn k n x = All (λ s. is_held_slot k n s ≡ false) x.slots.slots.items → ⊥

-- There is room for what the outcome leaves, and for the event.
pub record HasOutcomeRoom (x : Pages) (o : Outcome) : Type 0 where
  pub slots_room : length x.slots.slots.items + (length o.rest + 1) ≤ vec_capacity x.slots.slots
  pub room : HasEventRoom x

-- What the report of the outcome o at the place j answers, where so many leaves were spent.
abbrev pub kept_number : ℕ → Outcome → Option (List ℤ) → Option Number
kept_number j o None = None
kept_number j o (Some c) = Some (record { place = j; index = length o.rest })

abbrev pub report_answer : ℕ → Outcome → ℕ → Reported
report_answer j o spent = record { place = j; kept = kept_number j o o.kept; spent = spent }

-- The pass k reported the outcome o of the prefix with the number n.
pub record Reports (old new : Pages) (k : ℕ) (n : Number) (o : Outcome)
    (answer : Reported) : Type 0 where
  pub enters : Enters (Report k n o) old new
  pub answers : answer ≡ report_answer (suc (length old.journal.items)) o new.spent

-- The pages of a beginning of so many passes, with so many cubes and prefixes.
pub record BeginsWith (passes cubes prefixes : ℕ) (x : Pages) : Type 0 where
  pub journal : x.journal.items ≡ []
  pub parts : length x.published ≡ passes + 1
  pub published : IsPermutation (names_from 0 0 cubes) (all_names x.published)
  pub slots : x.slots.slots.items ≡ free_slots 0 0 prefixes
  pub spent : x.spent ≡ 0
  pub pages : ArePages x
