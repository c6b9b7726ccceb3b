-- The numbers of pending prefixes rise.
use Rattle.std.proofs.Common.{◌≡◌, ℕ, zero, suc, ◌+◌, ◌≤◌, true, Bool, List, [], ◌∷◌, ◌++◌, filter, length, get_or, ℤ, Option, Some, None, refl, sym, ap, ap₂, subst, ◌∙◌, inl, inr, arith}
use Rattle.std.specs.List.{All, AllPairs, find}
use Rattle.std.proofs.lemmas.Bool.{cases_Bool}
use Rattle.std.proofs.lemmas.List.{length-map, get_or-map}
use Rattle.std.proofs.lemmas.List.Elements.{All-nil, All-cons}
use Rattle.std.proofs.lemmas.List.Kept.{AllPairs-cons}
use Rattle.prefix_jobs.specs.declared.number.Number.{Number}
use Rattle.prefix_jobs.specs.declared.outcome.Outcome.{Outcome}
use Rattle.prefix_jobs.specs.Numbers.{is_before}
use Rattle.region_book.specs.declared.event.Event.{Event}
use Rattle.region_book.specs.declared.event.Event.TheVariants.{Take, Report, Release}
use Rattle.region_book.specs.declared.slot.Slot.{Slot}
use Rattle.region_book.specs.declared.slot.Standing.TheVariants.{Free}
use Rattle.region_book.specs.Machine.{Pending, BookState, is_free, is_held_by, edit_first, taken_by, let_go, taken_out, numbered, parts_of, reported, step, steps_from, start_from}
use Rattle.region_book.specs.Prefixes.{left_by}
use Rattle.region_book.specs.Slots.{NumbersRise, is_live, pending_of, live_of, free_slots, slots_of}
use Rattle.region_book.specs.Laws.{AreNumbered}
use Rattle.region_book.proofs.Found.{All-edited}
use Rattle.region_book.proofs.Left.{free_parts, left_parts}
use Rattle.region_book.proofs.Numbers.{step_numbers, start_numbers}
use Rattle.region_book.proofs.Rising.{pairs_append, All-filter, rise_filter, by_place, free_rise, slots_placed, slots_rise}

abbrev Rises : Pending → Pending → Type 0
Rises q r = is_before q.number r.number ≡ true

-- ---- the numbers that an event gives

-- prefixes have the numbers of their slots
module _ (prefixes : Number → List ℤ) (slots : List Slot) where
  abbrev some : Pending → Slot
  some d = record { number = d.number; standing = Free }

  live_rise : NumbersRise slots → AllPairs Rises (live_of prefixes slots)
  live_rise rise i j d low inside =
      let left = filter is_live slots in
      let long = length-map left (pending_of prefixes) in
      ap₂ (λ (q r : Pending). is_before q.number r.number) (get_or-map (pending_of prefixes) left i (some d) d (omega arith)) (get_or-map (pending_of prefixes) left j (some d) d (omega arith))
      ∙ rise_filter slots rise i j (some d) low (omega arith)

  live_all : (P : Number → Type 0) → All (λ s. P s.number) slots → All (λ q. P q.number) (live_of prefixes slots)
  live_all P all i d inside =
      let left = filter is_live slots in
      let long = length-map left (pending_of prefixes) in
      subst (λ (q : Pending). P q.number) (sym (get_or-map (pending_of prefixes) left i (some d) d (omega arith))) (All-filter (λ s. P s.number) slots all i (some d) (omega arith))

module _ (j k : ℕ) (n : Number) (o : Outcome) where
  abbrev own : Number → List ℤ
  own m = get_or (left_by (Report k n o)) m.index []

  own_parts : live_of own (slots_of j k o) ≡ parts_of j k o
  own_parts = left_parts own j k n o (λ i inside. refl)

  parts_rise : AllPairs Rises (parts_of j k o)
  parts_rise = subst (AllPairs Rises) own_parts (live_rise own (slots_of j k o) (slots_rise j k o))

  parts_placed : All (λ q. q.number.place ≡ j) (parts_of j k o)
  parts_placed = subst (All (λ q. q.number.place ≡ j)) own_parts (live_all own (slots_of j k o) (λ m. m.place ≡ j) (slots_placed j k o))

start_rise : (prefixes : List (List ℤ)) → AllPairs Rises (numbered 0 0 prefixes)
start_rise prefixes =
    subst (AllPairs Rises) (free_parts at 0 0 prefixes (λ m inside. ap (λ x. get_or prefixes x []) (let same : 0 + m ≡ m = omega arith in same)))
    (live_rise at (free_slots 0 0 (length prefixes)) (free_rise 0 0 (length prefixes)))
  where
    at : Number → List ℤ
    at m = get_or prefixes m.index []

-- ---- an edit

-- in place of one prefix stand those of a number that is as low and as high
record KeepsNumber (change : Pending → List Pending) : Type 0 where
  behind : (m : Number) (q : Pending) → is_before m q.number ≡ true → All (λ r. is_before m r.number ≡ true) (change q)
  before : (q : Pending) (ps : List Pending) → All (Rises q) ps → AllPairs Rises ps → AllPairs Rises (change q ++ ps)

out_keeps : KeepsNumber taken_out
out_keeps = record {
  behind = λ m q low. All-nil (λ r. is_before m r.number ≡ true);
  before = λ q ps all rise. rise;
}

held_keeps : (k : ℕ) → KeepsNumber (taken_by k)
held_keeps k = record {
  behind = λ m q low. All-cons (λ r. is_before m r.number ≡ true) (record q { holder = Some k }) [] low (All-nil (λ r. is_before m r.number ≡ true));
  before = λ q ps all rise. AllPairs-cons Rises (record q { holder = Some k }) ps all rise;
}

free_keeps : KeepsNumber let_go
free_keeps = record {
  behind = λ m q low. All-cons (λ r. is_before m r.number ≡ true) (record q { holder = None }) [] low (All-nil (λ r. is_before m r.number ≡ true));
  before = λ q ps all rise. AllPairs-cons Rises (record q { holder = None }) ps all rise;
}

edited_rise : (test : Pending → Bool) (change : Pending → List Pending) → KeepsNumber change → (ps : List Pending) → AllPairs Rises ps → AllPairs Rises (edit_first test change ps)
edited_rise test change keeps [] rise = rise
edited_rise test change keeps (q ∷ ps) rise =
    let head : All (Rises q) ps = λ k d inside. rise zero (suc k) d (omega arith) (omega arith) in
    let tail : AllPairs Rises ps = λ i j d low inside. rise (suc i) (suc j) d (omega arith) (omega arith) in
    elim (cases_Bool (test q)) [
      | inl e ↦ rw e (keeps.before q ps head tail)
      | inr e ↦ rw e (AllPairs-cons Rises q (edit_first test change ps) (All-edited (Rises q) test change (keeps.behind q.number) ps head) (edited_rise test change keeps ps tail))
    ]

-- ---- one event, and all

reported_rise : (m k : ℕ) (n : Number) (o : Outcome) (found : Option Pending) (s : BookState) → AreNumbered s.pending m → AllPairs Rises s.pending → AllPairs Rises (reported (suc m) k n o found s).pending
reported_rise m k n o None s are rise = rise
reported_rise m k n o (Some q) s are rise =
    let left = edit_first (is_held_by k n) taken_out s.pending in
    let placed = All-edited (λ r. r.number.place ≤ m) (is_held_by k n) taken_out (λ r low. All-nil (λ x. x.number.place ≤ m)) s.pending are.placed in
    pairs_append Rises left (parts_of (suc m) k o) (edited_rise (is_held_by k n) taken_out out_keeps s.pending rise) (parts_rise (suc m) k n o)
    (λ i j d low high. by_place (get_or left i d).number (get_or (parts_of (suc m) k o) j d).number
    (let old = placed i d low in let new = parts_placed (suc m) k n o j d high in omega arith))

step_rise : (m : ℕ) (e : Event) (s : BookState) → AreNumbered s.pending m → AllPairs Rises s.pending → AllPairs Rises (step (suc m) e s).pending
step_rise m (Take k n) s are rise = edited_rise (is_free n) (taken_by k) (held_keeps k) s.pending rise
step_rise m (Report k n o) s are rise = reported_rise m k n o (find (is_held_by k n) s.pending) s are rise
step_rise m (Release k n) s are rise = edited_rise (is_held_by k n) let_go free_keeps s.pending rise

events_rise : (m : ℕ) (events : List Event) (s : BookState) → AreNumbered s.pending m → AllPairs Rises s.pending → AllPairs Rises (steps_from (suc m) events s).pending
events_rise m [] s are rise = rise
events_rise m (e ∷ es) s are rise = events_rise (suc m) es (step (suc m) e s) (step_numbers m e s are) (step_rise m e s are rise)

pub numbers_rise : (cubes prefixes : List (List ℤ)) (events : List Event) → AllPairs (λ q r. is_before q.number r.number ≡ true) (steps_from 1 events (start_from cubes prefixes)).pending
numbers_rise cubes prefixes events = events_rise 0 events (start_from cubes prefixes) (start_numbers cubes prefixes) (start_rise prefixes)
