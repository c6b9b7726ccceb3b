-- Slots whose numbers rise: one is found by halves, and the first that passes has the lowest number.
use Rattle.std.proofs.Common.{◌≡◌, ℕ, zero, suc, ◌+◌, ◌<◌, ◌≤◌, Bool, true, false, ◌&&◌, nat_eq, nat_lt, List, [], ◌∷◌, ◌++◌, filter, length, length-append, length-set, get_or, set, ℤ, Option, Some, None, refl, sym, ap, ap₂, subst, ◌∙◌, inl, inr, arith}
use Rattle.std.specs.List.{All, AllPairs, AllWithin, list_any, position, position_or_len}
use Rattle.std.specs.List.Sorted.{IsPartitionedBy, IsPartitionPoint}
use Rattle.std.proofs.lemmas.Bool.{cases_Bool, cases_eq, cases_lt, both_ways, and_parts, and_from, and_left, and_right, or_left, or_right, eq-eqb, eqb-true, lt-ltb, false_from_ne_true}
use Rattle.std.proofs.lemmas.List.{get_or-set_same, get_or-set_other, get_or_append_left, get_or_default}
use Rattle.std.proofs.lemmas.List.Quantifiers.{position-Some}
use Rattle.std.specs.Bool.{then_some}
use Rattle.std.proofs.lemmas.List.Elements.{All-nil, All-cons, All-head, All-tail, All-append}
use Rattle.std.proofs.lemmas.List.Kept.{AllPairs-cons}
use Rattle.prefix_jobs.specs.declared.number.Number.{Number}
use Rattle.prefix_jobs.specs.declared.outcome.Outcome.{Outcome}
use Rattle.prefix_jobs.specs.Numbers.{is_before}
use Rattle.prefix_jobs.proofs.Order.{numbers_are_ordered}
use Rattle.region_book.specs.declared.slot.Slot.{Slot}
use Rattle.region_book.specs.declared.slot.Standing.{Standing}
use Rattle.region_book.specs.declared.slot.Standing.TheVariants.{Free, Held, Gone}
use Rattle.region_book.specs.Machine.{Pending, has_number}
use Rattle.region_book.specs.Lowest.{IsLowestOf}
use Rattle.region_book.specs.Slots.{is_free_standing, is_live, stands_free, is_free_slot, has_slot_number, pending_of, live_of, NumbersRise, StandsAt, Finds, AreTakenUpTo, IsFirstFree, taken_up_to, free_slots, kept_slot, slots_of}
use Rattle.region_book.specs.Pages.{held_slots}
use Rattle.region_book.proofs.Live.{Mirrors, stands_rest, passes_both, fails_live}

-- ---- numbers

never_itself : (n : Number) → is_before n n ≡ false
never_itself n = (numbers_are_ordered n n n).never_itself

not_back : (m n : Number) → is_before m n ≡ true → is_before n m ≡ false
not_back m n h = false_from_ne_true (is_before n m) (λ back. both_ways (is_before m m) (never_itself m) ((numbers_are_ordered m n m).goes_on h back))

same_number : (n : Number) (s : Slot) → has_slot_number n s ≡ true → s.number ≡ n
same_number n s h =
    let (place, index) = and_parts (nat_eq s.number.place n.place) (nat_eq s.number.index n.index) h in
    let make : ℕ → ℕ → Number = λ x y. record { place = x; index = y } in
    ap₂ make (eqb-true s.number.place n.place place) (eqb-true s.number.index n.index index)

has_own : (s : Slot) → has_slot_number s.number s ≡ true
has_own s = and_from (nat_eq s.number.place s.number.place) (nat_eq s.number.index s.number.index) (eq-eqb s.number.place s.number.place refl) (eq-eqb s.number.index s.number.index refl)

-- one before or behind another has not its number
other_number : (n : Number) (s : Slot) → (s.number ≡ n → ⊥) → has_slot_number n s ≡ false
other_number n s other = false_from_ne_true (has_slot_number n s) (λ h. other (same_number n s h))

-- ---- rising lists

pub rise_head : (s : Slot) (slots : List Slot) → NumbersRise (s ∷ slots) → All (λ t. is_before s.number t.number ≡ true) slots
rise_head s slots rise k d inside = rise zero (suc k) d (omega arith) (omega arith)

pub rise_tail : (s : Slot) (slots : List Slot) → NumbersRise (s ∷ slots) → NumbersRise slots
rise_tail s slots rise i j d low inside = rise (suc i) (suc j) d (omega arith) (omega arith)

pub rise_set : (slots : List Slot) (at : ℕ) (new : Slot) → at < length slots → ((d : Slot) → new.number ≡ (get_or slots at d).number) → NumbersRise slots → NumbersRise (set slots at new)
rise_set slots at new inside same rise i j d low high =
    let long = length-set slots at new in
    ap₂ is_before (kept i (omega arith)) (kept j (omega arith)) ∙ rise i j d low (omega arith)
  where
    kept : (k : ℕ) → k < length slots → (get_or (set slots at new) k d).number ≡ (get_or slots k d).number
    kept k below = elim (cases_eq k at) [
      | inl here ↦ subst (λ x. (get_or (set slots at new) x d).number ≡ (get_or slots x d).number) (sym here) (ap (λ (x : Slot). x.number) (get_or-set_same slots at new d inside) ∙ same d)
      | inr other ↦ ap (λ (x : Slot). x.number) (get_or-set_other slots at k new d other)
    ]

pub pairs_append : {X : Type 0} (R : X → X → Type 0) (xs ys : List X) → AllPairs R xs → AllPairs R ys → ((i j : ℕ) (d : X) → i < length xs → j < length ys → R (get_or xs i d) (get_or ys j d)) → AllPairs R (xs ++ ys)
pairs_append R [] ys one two between = two
pairs_append R (x ∷ xs) ys one two between =
    AllPairs-cons R x (xs ++ ys)
    (All-append (R x) xs ys (λ k d inside. one zero (suc k) d (omega arith) (omega arith)) (λ k d inside. between zero k d (omega arith) inside))
    (pairs_append R xs ys (λ i j d low inside. one (suc i) (suc j) d (omega arith) (omega arith)) two (λ i j d low high. between (suc i) j d (omega arith) high))

pub rise_append : (ss ts : List Slot) → NumbersRise ss → NumbersRise ts → ((i j : ℕ) (d : Slot) → i < length ss → j < length ts → is_before (get_or ss i d).number (get_or ts j d).number ≡ true) → NumbersRise (ss ++ ts)
rise_append ss ts one two between = pairs_append (λ s t. is_before s.number t.number ≡ true) ss ts one two between

pub All-filter : (P : Slot → Type 0) (slots : List Slot) → All P slots → All P (filter is_live slots)
All-filter P [] all = all
All-filter P (s ∷ slots) all =
    let rest = All-filter P slots (All-tail P s slots all) in
    elim (cases_Bool (is_live s)) [
      | inl lives ↦ rw lives (All-cons P s (filter is_live slots) (All-head P s slots all) rest)
      | inr gone ↦ rw gone rest
    ]

pub rise_filter : (slots : List Slot) → NumbersRise slots → NumbersRise (filter is_live slots)
rise_filter [] rise = rise
rise_filter (s ∷ slots) rise =
    let rest = rise_filter slots (rise_tail s slots rise) in
    elim (cases_Bool (is_live s)) [
      | inl lives ↦ rw lives (AllPairs-cons (λ x y. is_before x.number y.number ≡ true) s (filter is_live slots) (All-filter (λ t. is_before s.number t.number ≡ true) slots (rise_head s slots rise)) rest)
      | inr gone ↦ rw gone rest
    ]

-- ---- new slots

pub by_place : (m n : Number) → m.place < n.place → is_before m n ≡ true
by_place m n h = or_left (nat_lt m.place n.place) (nat_eq m.place n.place && nat_lt m.index n.index) (lt-ltb m.place n.place h)

by_index : (m n : Number) → m.place ≡ n.place → m.index < n.index → is_before m n ≡ true
by_index m n same h = or_right (nat_lt m.place n.place) (nat_eq m.place n.place && nat_lt m.index n.index) (and_from (nat_eq m.place n.place) (nat_lt m.index n.index) (eq-eqb m.place n.place same) (lt-ltb m.index n.index h))

-- each has the place, and an index in a range
record IsOfPlace (j low high : ℕ) (s : Slot) : Type 0 where
  place : s.number.place ≡ j
  from : low ≤ s.number.index
  below : s.number.index < high

free_of_place : (j i n : ℕ) → All (IsOfPlace j i (i + n)) (free_slots j i n)
free_of_place j i zero = All-nil (IsOfPlace j i (i + zero))
free_of_place j i (suc n) =
    All-cons (IsOfPlace j i (i + suc n)) (record { number = record { place = j; index = i }; standing = Free }) (free_slots j (suc i) n)
    (record { place = refl; from = omega arith; below = omega arith })
    (λ k d inside. (let rest = free_of_place j (suc i) n k d inside in let low = rest.from in let high = rest.below in record { place = rest.place; from = omega arith; below = omega arith }))

pub free_rise : (j i n : ℕ) → NumbersRise (free_slots j i n)
free_rise j i zero = λ x y d low high. absurd (omega arith)
free_rise j i (suc n) =
    AllPairs-cons (λ x y. is_before x.number y.number ≡ true) (record { number = record { place = j; index = i }; standing = Free }) (free_slots j (suc i) n)
    (λ k d inside. (let one = free_of_place j (suc i) n k d inside in let low = one.from in by_index (record { place = j; index = i }) (get_or (free_slots j (suc i) n) k d).number (sym one.place) (omega arith)))
    (free_rise j (suc i) n)

kept_of_place : (j i k : ℕ) (kept : Option (List ℤ)) → All (IsOfPlace j i (suc i)) (kept_slot j i k kept)
kept_of_place j i k None = All-nil (IsOfPlace j i (suc i))
kept_of_place j i k (Some c) = All-cons (IsOfPlace j i (suc i)) (record { number = record { place = j; index = i }; standing = Held k }) [] (record { place = refl; from = omega arith; below = omega arith }) (All-nil (IsOfPlace j i (suc i)))

kept_rise : (j i k : ℕ) (kept : Option (List ℤ)) → NumbersRise (kept_slot j i k kept)
kept_rise j i k None = λ x y d low high. absurd (omega arith)
kept_rise j i k (Some c) = λ x y d low high. absurd (omega arith)

pub slots_placed : (j k : ℕ) (o : Outcome) → All (λ s. s.number.place ≡ j) (slots_of j k o)
slots_placed j k o =
    All-append (λ s. s.number.place ≡ j) (free_slots j 0 (length o.rest)) (kept_slot j (length o.rest) k o.kept)
    (λ i d inside. (free_of_place j 0 (length o.rest) i d inside).place)
    (λ i d inside. (kept_of_place j (length o.rest) k o.kept i d inside).place)

pub free_placed : (j n : ℕ) → All (λ s. s.number.place ≡ j) (free_slots j 0 n)
free_placed j n i d inside = (free_of_place j 0 n i d inside).place

pub slots_rise : (j k : ℕ) (o : Outcome) → NumbersRise (slots_of j k o)
slots_rise j k o =
    rise_append (free_slots j 0 (length o.rest)) (kept_slot j (length o.rest) k o.kept) (free_rise j 0 (length o.rest)) (kept_rise j (length o.rest) k o.kept)
    (λ x y d low high. (let one = free_of_place j 0 (length o.rest) x d low in let other = kept_of_place j (length o.rest) k o.kept y d high in
    let below = one.below in let from = other.from in by_index (get_or (free_slots j 0 (length o.rest)) x d).number (get_or (kept_slot j (length o.rest) k o.kept) y d).number (one.place ∙ sym other.place) (omega arith)))

pub more_rise : (slots : List Slot) (j k : ℕ) (o : Outcome) → NumbersRise slots → All (λ s. s.number.place < j) slots → NumbersRise (slots ++ slots_of j k o)
more_rise slots j k o rise older =
    rise_append slots (slots_of j k o) rise (slots_rise j k o)
    (λ x y d low high. (let one = older x d low in let other = slots_placed j k o y d high in by_place (get_or slots x d).number (get_or (slots_of j k o) y d).number (omega arith)))

-- ---- a number by halves

pub halves : (slots : List Slot) (n : Number) → NumbersRise slots → IsPartitionedBy (λ s. is_before s.number n) slots
halves slots n rise i j d low inside later = elim (cases_eq i j) [
  | inl same ↦ subst (λ k. is_before (get_or slots k d).number n ≡ true) (sym same) later
  | inr other ↦ (numbers_are_ordered (get_or slots i d).number (get_or slots j d).number n).goes_on (rise i j d (omega arith) inside) later
]

pub found_here : (slots : List Slot) (n : Number) (at : ℕ) → NumbersRise slots → at < length slots → ((d : Slot) → (get_or slots at d).number ≡ n) → StandsAt (has_slot_number n) slots at
found_here slots n at rise inside same = record {
  inside = inside;
  passes = λ d. subst (λ x. has_slot_number x (get_or slots at d) ≡ true) (same d) (has_own (get_or slots at d));
  before = λ k d low. other_number n (get_or slots k d) (λ e. both_ways (is_before n n) (never_itself n) (sym (ap₂ is_before e (same d)) ∙ rise k at d low inside));
}

pub not_found : (slots : List Slot) (n : Number) (at : ℕ) → NumbersRise slots → AllWithin (λ s. is_before s.number n ≡ true) slots 0 at → AllWithin (λ s. is_before s.number n ≡ false) slots at (length slots) →
    (at < length slots → (d : Slot) → (get_or slots at d).number ≡ n → ⊥) → All (λ s. has_slot_number n s ≡ false) slots
not_found slots n at rise below above other k d inside = other_number n (get_or slots k d) (λ e. elim (cases_lt k at) [
  | inl low ↦ both_ways (is_before n n) (never_itself n) (sym (ap (λ x. is_before x n) e) ∙ below k d (omega arith) low)
  | inr high ↦ elim (cases_eq k at) [
    | inl here ↦ other (omega arith) d (subst (λ x. (get_or slots x d).number ≡ n) here e)
    | inr later ↦ both_ways (is_before (get_or slots at d).number n) (above at d (omega arith) (omega arith)) (ap (is_before (get_or slots at d).number) (sym e) ∙ rise at k d (omega arith) inside)
  ]
])

-- the slot of a number, where it passes a test besides
pub found_and : (test : Slot → Bool) (n : Number) (slots : List Slot) (at : ℕ) → StandsAt (has_slot_number n) slots at → ((d : Slot) → test (get_or slots at d) ≡ true) → StandsAt (λ s. has_slot_number n s && test s) slots at
found_and test n slots at stands passes = record {
  inside = stands.inside;
  passes = λ d. and_from (has_slot_number n (get_or slots at d)) (test (get_or slots at d)) (stands.passes d) (passes d);
  before = λ k d low. and_left (has_slot_number n (get_or slots k d)) (test (get_or slots k d)) (stands.before k d low);
}

pub none_and : (test : Slot → Bool) (n : Number) (slots : List Slot) → All (λ s. has_slot_number n s ≡ false) slots → All (λ s. (has_slot_number n s && test s) ≡ false) slots
none_and test n slots none k d inside = and_left (has_slot_number n (get_or slots k d)) (test (get_or slots k d)) (none k d inside)

-- where it does not pass, no slot has the number and passes
pub fails_and : (test : Slot → Bool) (n : Number) (slots : List Slot) (at : ℕ) → NumbersRise slots → StandsAt (has_slot_number n) slots at → ((d : Slot) → test (get_or slots at d) ≡ false) → All (λ s. (has_slot_number n s && test s) ≡ false) slots
fails_and test n slots at rise stands fails k d inside = elim (cases_eq k at) [
  | inl here ↦ and_right (has_slot_number n (get_or slots k d)) (test (get_or slots k d)) (subst (λ x. test (get_or slots x d) ≡ false) (sym here) (fails d))
  | inr other ↦ and_left (has_slot_number n (get_or slots k d)) (test (get_or slots k d)) (elim (cases_lt k at) [
    | inl low ↦ stands.before k d low
    | inr high ↦ other_number n (get_or slots k d) (λ e. both_ways (is_before n n) (never_itself n)
        (sym (ap₂ is_before (same_number n (get_or slots at d) (stands.passes d)) e) ∙ rise at k d (omega arith) inside))
  ])
]

-- ---- the first free slot

pub taken_start : (slots : List Slot) → AreTakenUpTo slots 0
taken_start slots = record { inside = omega arith; before = λ k d low. absurd (omega arith) }

-- a change to another standing than free
taken_other : (slots : List Slot) (at first : ℕ) (new : Slot) → at < length slots → AreTakenUpTo slots first → stands_free new ≡ false → AreTakenUpTo (set slots at new) first
taken_other slots at first new inside taken held = record {
  inside = (let long = length-set slots at new in let low = taken.inside in omega arith);
  before = λ k d low. elim (cases_eq k at) [
    | inl here ↦ subst (λ x. stands_free (get_or (set slots at new) x d) ≡ false) (sym here) (ap stands_free (get_or-set_same slots at new d inside) ∙ held)
    | inr other ↦ ap stands_free (get_or-set_other slots at k new d other) ∙ taken.before k d low
  ];
}

pub taken_set : (slots : List Slot) (at first : ℕ) (standing : Standing) (new : Slot) → at < length slots → AreTakenUpTo slots first → new.standing ≡ standing → AreTakenUpTo (set slots at new) (taken_up_to standing first at)
taken_set slots at first Free new inside taken stands = record {
  inside = (let long = length-set slots at new in let low = taken.inside in omega arith);
  before = λ k d low. ap stands_free (get_or-set_other slots at k new d (λ e. (let below = low in omega arith))) ∙ taken.before k d (omega arith);
}
taken_set slots at first (Held h) new inside taken stands = taken_other slots at first new inside taken (ap is_free_standing stands)
taken_set slots at first Gone new inside taken stands = taken_other slots at first new inside taken (ap is_free_standing stands)

pub taken_more : (ss ts : List Slot) (first : ℕ) → AreTakenUpTo ss first → AreTakenUpTo (ss ++ ts) first
taken_more ss ts first taken = record {
  inside = (let long = length-append ss ts in let low = taken.inside in omega arith);
  before = λ k d low. (let below = taken.inside in ap stands_free (get_or_append_left ss ts d k (omega arith)) ∙ taken.before k d low);
}

pub first_stands : (slots : List Slot) (at : ℕ) → IsFirstFree slots at → at < length slots → StandsAt stands_free slots at
first_stands slots at first inside = record {
  inside = inside;
  passes = λ d. first.free d inside;
  before = first.taken.before;
}

pub none_free : (slots : List Slot) (at : ℕ) → IsFirstFree slots at → length slots ≤ at → All (λ s. stands_free s ≡ false) slots
none_free slots at first over k d inside = first.taken.before k d (omega arith)

-- ---- the lowest number

module _ (prefixes : Number → List ℤ) (p : Slot → Bool) (test : Pending → Bool) (mirrors : Mirrors prefixes p test) where
  later : (n : Number) (slots : List Slot) → All (λ t. is_before n t.number ≡ true) slots → All (λ q. test q ≡ true → is_before q.number n ≡ false) (live_of prefixes slots)
  later n [] above = All-nil (λ q. test q ≡ true → is_before q.number n ≡ false)
  later n (s ∷ slots) above =
      let rest = later n slots (All-tail (λ t. is_before n t.number ≡ true) s slots above) in
      elim (cases_Bool (is_live s)) [
        | inl lives ↦ rw lives (All-cons (λ q. test q ≡ true → is_before q.number n ≡ false) (pending_of prefixes s) (live_of prefixes slots)
            (λ passes. not_back n s.number (All-head (λ t. is_before n t.number ≡ true) s slots above)) rest)
        | inr gone ↦ rw gone rest
      ]

  pub lowest_live : (slots : List Slot) (at : ℕ) (d : Slot) → NumbersRise slots → StandsAt p slots at → IsLowestOf test (live_of prefixes slots) (get_or slots at d).number
  lowest_live [] at d rise stands = absurd (let low = stands.inside in omega arith)
  lowest_live (s ∷ slots) zero d rise stands =
      let (lives, passes) = passes_both prefixes p test mirrors s (stands.passes s) in
      rw lives (record {
        some = or_left (has_number s.number (pending_of prefixes s) && test (pending_of prefixes s)) (list_any (λ q. has_number s.number q && test q) (live_of prefixes slots))
            (and_from (has_number s.number (pending_of prefixes s)) (test (pending_of prefixes s)) (has_own s) passes);
        least = All-cons (λ q. test q ≡ true → is_before q.number s.number ≡ false) (pending_of prefixes s) (live_of prefixes slots)
            (λ passed. never_itself s.number) (later s.number slots (rise_head s slots rise));
      })
  lowest_live (s ∷ slots) (suc at) d rise stands =
      let rest = lowest_live slots at d (rise_tail s slots rise) (stands_rest p s slots at stands) in
      let n = (get_or slots at d).number in
      elim (cases_Bool (is_live s)) [
        | inl lives ↦
            let fails = fails_live prefixes p test mirrors s (stands.before zero s (omega arith)) lives in
            rw lives (record {
              some = or_right (has_number n (pending_of prefixes s) && test (pending_of prefixes s)) (list_any (λ q. has_number n q && test q) (live_of prefixes slots)) rest.some;
              least = All-cons (λ q. test q ≡ true → is_before q.number n ≡ false) (pending_of prefixes s) (live_of prefixes slots)
                  (λ passed. absurd (both_ways (test (pending_of prefixes s)) fails passed)) rest.least;
            })
        | inr gone ↦ rw gone rest
      ]

-- ---- one slot more

pub free_more : (j i n m : ℕ) → m ≡ i + n → free_slots j i (suc n) ≡ free_slots j i n ++ record { number = record { place = j; index = m }; standing = Free } ∷ []
free_more j i zero m at = let same : i ≡ m = omega arith in ap (λ x. record { number = record { place = j; index = x }; standing = Free } ∷ []) same
free_more j i (suc n) m at = ap (λ x. record { number = record { place = j; index = i }; standing = Free } ∷ x) (free_more j (suc i) n m (omega arith))

pub length-free : (j i n : ℕ) → length (free_slots j i n) ≡ n
length-free j i zero = refl
length-free j i (suc n) = ap suc (length-free j (suc i) n)

-- ---- what a search answers

same_at : (slots : List Slot) (at : ℕ) (slot d : Slot) → slot ≡ get_or slots at slot → at < length slots → get_or slots at d ≡ slot
same_at slots at slot d here inside = get_or_default slots at d slot inside ∙ sym here

pub told_at : (slots : List Slot) (n : Number) (at : ℕ) (slot : Slot) → NumbersRise slots → IsPartitionPoint (λ s. is_before s.number n ≡ true) (λ s. is_before s.number n ≡ false) slots at → at < length slots → slot ≡ get_or slots at slot →
    Finds (has_slot_number n) slots (then_some (has_slot_number n slot) at)
told_at slots n at slot rise point inside here = elim (cases_Bool (has_slot_number n slot)) [
  | inl has ↦ rw has (found_here slots n at rise inside (λ d. ap (λ (x : Slot). x.number) (same_at slots at slot d here inside) ∙ same_number n slot has))
  | inr other ↦ rw other (not_found slots n at rise point.0 point.1
      (λ low d same. both_ways (has_slot_number n slot) other (subst (λ x. has_slot_number x slot ≡ true) (ap (λ (x : Slot). x.number) (sym (same_at slots at slot d here inside)) ∙ same) (has_own slot))))
]

pub told_past : (slots : List Slot) (n : Number) (at : ℕ) → NumbersRise slots → IsPartitionPoint (λ s. is_before s.number n ≡ true) (λ s. is_before s.number n ≡ false) slots at → length slots ≤ at → All (λ s. has_slot_number n s ≡ false) slots
told_past slots n at rise point over = not_found slots n at rise point.0 point.1 (λ low d same. (let high = over in omega arith))

pub finds_and : (test : Slot → Bool) (n : Number) (slots : List Slot) (at : ℕ) (slot : Slot) → NumbersRise slots → StandsAt (has_slot_number n) slots at → slot ≡ get_or slots at slot → Finds (λ s. has_slot_number n s && test s) slots (then_some (test slot) at)
finds_and test n slots at slot rise stands here = elim (cases_Bool (test slot)) [
  | inl passes ↦ rw passes (found_and test n slots at stands (λ d. ap test (same_at slots at slot d here stands.inside) ∙ passes))
  | inr fails ↦ rw fails (fails_and test n slots at rise stands (λ d. ap test (same_at slots at slot d here stands.inside) ∙ fails))
]

-- the first that passes, as std's search tells it
pub stands_position : (test : Slot → Bool) (slots : List Slot) (at : ℕ) → position test slots ≡ Some at → StandsAt test slots at
stands_position test slots at h = record {
  inside = (position-Some test slots at (record { number = record { place = 0; index = 0 }; standing = Gone }) h).0;
  passes = λ d. (position-Some test slots at d h).1;
  before = λ k d low. (position-Some test slots at d h).2 k low;
}

pass_inside : (test : Slot → Bool) (slots : List Slot) (k : ℕ) (d : Slot) → k < length slots → test (get_or slots k d) ≡ true → position_or_len test slots < length slots
pass_inside test [] k d inside passes = absurd (omega arith)
pass_inside test (s ∷ slots) zero d inside passes = rw passes (omega arith)
pass_inside test (s ∷ slots) (suc k) d inside passes =
    let rest = pass_inside test slots k d (omega arith) passes in
    elim (cases_Bool (test s)) [
      | inl e ↦ rw e (omega arith)
      | inr e ↦ rw e (omega arith)
    ]

pub none_position : (test : Slot → Bool) (slots : List Slot) → position test slots ≡ None → All (λ s. test s ≡ false) slots
none_position test slots h k d inside = false_from_ne_true (test (get_or slots k d)) (λ passes.
    (let low = lt-ltb (position_or_len test slots) (length slots) (pass_inside test slots k d inside passes) in
    let bad : Some (position_or_len test slots) ≡ None = rw low at h in cc))

-- the slot that was found has the number
pub number_found : (n : Number) (slots : List Slot) (at : ℕ) (d : Slot) → StandsAt (is_free_slot n) slots at → (get_or slots at d).number ≡ n
number_found n slots at d stands = same_number n (get_or slots at d) (and_parts (has_slot_number n (get_or slots at d)) (stands_free (get_or slots at d)) (stands.passes d)).0

pub filter_again : (slots : List Slot) → filter is_live (filter is_live slots) ≡ filter is_live slots
filter_again [] = refl
filter_again (s ∷ slots) =
    let rest = filter_again slots in
    elim (cases_Bool (is_live s)) [
      | inl lives ↦ rw lives (rw lives (ap (λ x. s ∷ x) rest))
      | inr gone ↦ rw gone rest
    ]

pub filter_fewer : (slots : List Slot) → length (filter is_live slots) ≤ length slots
filter_fewer [] = omega arith
filter_fewer (s ∷ slots) =
    let rest = filter_fewer slots in
    elim (cases_Bool (is_live s)) [
      | inl lives ↦ rw lives (omega arith)
      | inr gone ↦ rw gone (omega arith)
    ]

pub free_not_held : (j i n : ℕ) → held_slots (free_slots j i n) ≡ 0
free_not_held j i zero = refl
free_not_held j i (suc n) = free_not_held j (suc i) n
