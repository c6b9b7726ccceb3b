-- The numbers of the pending prefixes, and who holds each.
use Rattle.std.specs.Prelude.{◌≡◌, ℕ, zero, suc, ◌<◌, ◌≤◌, Bool, true, false, ◌&&◌, nat_eq, min, List, [], ◌∷◌, ◌++◌, map, is_some, is_none, filter, length, slice_index_or, ℤ, Option, Some, None}
use Rattle.std.specs.List.{All, AllPairs}
use Rattle.prefix_jobs.specs.declared.number.Number.{Number}
use Rattle.prefix_jobs.specs.declared.outcome.Outcome.{Outcome}
use Rattle.prefix_jobs.specs.Numbers.{is_before}
use Rattle.region_book.specs.declared.slot.Slot.{Slot}
use Rattle.region_book.specs.declared.slot.Standing.{Standing}
use Rattle.region_book.specs.declared.slot.Standing.TheVariants.{Free, Held, Gone}
use Rattle.region_book.specs.declared.slots.Slots.{Slots}
use Rattle.region_book.specs.Machine.{Pending}
use Rattle.region_book.specs.Lowest.{IsLowest}

-- How a prefix stands.
abbrev pub standing_lives : Standing → Bool
standing_lives Free = true
standing_lives (Held k) = true
standing_lives Gone = false

abbrev pub holder_of : Standing → Option ℕ
holder_of Free = None
holder_of (Held k) = Some k
holder_of Gone = None

abbrev pub is_free_standing : Standing → Bool
is_free_standing Free = true
is_free_standing (Held k) = false
is_free_standing Gone = false

abbrev pub is_held_standing : Standing → Bool
is_held_standing Free = false
is_held_standing (Held k) = true
is_held_standing Gone = false

abbrev pub is_standing_for : ℕ → Standing → Bool
is_standing_for k Free = false
is_standing_for k (Held h) = nat_eq h k
is_standing_for k Gone = false

abbrev pub is_live : Slot → Bool
is_live s = standing_lives s.standing

abbrev pub stands_free : Slot → Bool
stands_free s = is_free_standing s.standing

abbrev pub stands_held : Slot → Bool
stands_held s = is_held_standing s.standing

abbrev pub stands_for : ℕ → Slot → Bool
stands_for k s = is_standing_for k s.standing

-- The slot of this number, where nobody holds it, and where the pass k does.
abbrev pub has_slot_number : Number → Slot → Bool
has_slot_number n s = nat_eq s.number.place n.place && nat_eq s.number.index n.index

abbrev pub is_free_slot : Number → Slot → Bool
is_free_slot n s = has_slot_number n s && stands_free s

abbrev pub is_held_slot : ℕ → Number → Slot → Bool
is_held_slot k n s = has_slot_number n s && stands_for k s

-- The pending prefixes of the slots that live, where `prefix_of` gives the prefix of a number.
abbrev pub pending_of : (Number → List ℤ) → Slot → Pending
pending_of prefix_of s =
    record { number = s.number; prefix = prefix_of s.number; holder = holder_of s.standing }

abbrev pub live_of : (Number → List ℤ) → List Slot → List Pending
live_of prefix_of slots = map (pending_of prefix_of) (filter is_live slots)

-- The numbers rise from slot to slot.
abbrev pub NumbersRise : List Slot → Type 0
NumbersRise slots = AllPairs (λ s t. is_before s.number t.number ≡ true) slots

-- The slot at this place passes the test, and none before it; none passes at all.
pub record StandsAt (test : Slot → Bool) (slots : List Slot) (at : ℕ) : Type 0 where
  pub inside : at < length slots
  pub passes : (d : Slot) → test (slice_index_or slots at d) ≡ true
  pub before : (k : ℕ) (d : Slot) → k < at → test (slice_index_or slots k d) ≡ false

abbrev pub Finds : (Slot → Bool) → List Slot → Option ℕ → Type 0
Finds test slots None = All (λ s. test s ≡ false) slots
Finds test slots (Some at) = StandsAt test slots at

-- No slot before this place is free.
pub record AreTakenUpTo (slots : List Slot) (at : ℕ) : Type 0 where
  pub inside : at ≤ length slots
  pub before : (k : ℕ) (d : Slot) → k < at → stands_free (slice_index_or slots k d) ≡ false

-- The first free slot is at this place; at the end where none is free.
pub record IsFirstFree (slots : List Slot) (at : ℕ) : Type 0 where
  pub taken : AreTakenUpTo slots at
  pub free : (d : Slot) → at < length slots → stands_free (slice_index_or slots at d) ≡ true

-- Up to where none is free after a change at a place, if none was before the first free one.
abbrev pub taken_up_to : Standing → ℕ → ℕ → ℕ
taken_up_to Free first at = min first at
taken_up_to (Held k) first at = first
taken_up_to Gone first at = first

-- What the slots of a book keep.
pub record AreSlots (x : Slots) : Type 0 where
  pub rise : NumbersRise x.slots.items
  pub first : IsFirstFree x.slots.items x.first_free

-- The lowest number of a free slot, and of a held one.
abbrev pub IsLowestFreeSlot : List Slot → Option Number → Type 0
IsLowestFreeSlot slots r =
    (prefix_of : Number → List ℤ) →
    IsLowest (λ q. is_none q.holder) (live_of prefix_of slots) r

abbrev pub IsLowestHeldSlot : List Slot → Option Number → Type 0
IsLowestHeldSlot slots r =
    (prefix_of : Number → List ℤ) →
    IsLowest (λ q. is_some q.holder) (live_of prefix_of slots) r

-- The slots of n free prefixes of the place j, from the index i on, and of a kept one.
abbrev pub free_slots : ℕ → ℕ → ℕ → List Slot
free_slots j i zero = []
free_slots j i (suc n) =
    record { number = record { place = j; index = i }; standing = Free } ∷ free_slots j (suc i) n

abbrev pub kept_slot : ℕ → ℕ → ℕ → Option (List ℤ) → List Slot
kept_slot j i k None = []
kept_slot j i k (Some c) =
    record { number = record { place = j; index = i }; standing = Held k } ∷ []

-- The slots of what an outcome leaves, which the pass k reports at the place j.
abbrev pub slots_of : ℕ → ℕ → Outcome → List Slot
slots_of j k o = free_slots j 0 (length o.rest) ++ kept_slot j (length o.rest) k o.kept
