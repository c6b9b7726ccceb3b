-- No two pending prefixes have one number.
use Rattle.std.proofs.Common.{◌≡◌, ℕ, suc, ◌+◌, ◌<◌, ◌≤◌, Bool, cond, ◌&&◌, nat_eq, List, [], ◌∷◌, ◌++◌, filter, length, length-append, ℤ, Option, Some, None, refl, sym, ap, ◌∙◌, inl, inr, arith}
use Rattle.std.specs.List.{All, find}
use Rattle.std.proofs.lemmas.Bool.{cases_Bool, cases_eq, cases_lt, and_left, and_right, ne_eqb}
use Rattle.std.proofs.lemmas.List.Elements.{filter-append, All-nil, All-cons, All-head, All-tail, All-append, All-weaker}
use Rattle.prefix_jobs.specs.declared.number.Number.{Number}
use Rattle.prefix_jobs.specs.declared.outcome.Outcome.{Outcome}
use Rattle.region_book.specs.declared.event.Event.{Event}
use Rattle.region_book.specs.declared.event.Event.TheVariants.{Take, Report, Release}
use Rattle.region_book.specs.Machine.{Pending}
use Rattle.region_book.specs.Machine.{BookState, has_number, is_free, is_held_by, edit_first, taken_by, let_go, taken_out, numbered, kept_part, parts_of, reported, step, steps_from, start_from}
use Rattle.region_book.specs.Laws.{AreNumbered}
use Rattle.region_book.proofs.Found.{All-edited}

-- how many have the number
abbrev pub count_of : Number → List Pending → ℕ
count_of n ps = length (filter (has_number n) ps)

count_of-append : (n : Number) (ps rs : List Pending) → count_of n (ps ++ rs) ≡ count_of n ps + count_of n rs
count_of-append n ps rs = ap length (filter-append (has_number n) ps rs) ∙ length-append (filter (has_number n) ps) (filter (has_number n) rs)

count_of-cons : (n : Number) (q : Pending) (ps : List Pending) → count_of n (q ∷ ps) ≡ cond (has_number n q) 1 0 + count_of n ps
count_of-cons n q ps = elim (cases_Bool (has_number n q)) [
  | inl e ↦ rw e (omega arith)
  | inr e ↦ rw e (omega arith)
]

-- an edit that gives no number but that of the prefix, once
edited_count : (n : Number) (test : Pending → Bool) (change : Pending → List Pending) → ((q : Pending) → count_of n (change q) ≤ cond (has_number n q) 1 0) → (ps : List Pending) → count_of n (edit_first test change ps) ≤ count_of n ps
edited_count n test change few [] = omega arith
edited_count n test change few (q ∷ ps) =
    let now = count_of-cons n q ps in
    elim (cases_Bool (test q)) [
      | inl e ↦ let new = count_of-append n (change q) ps in let one = few q in rw e (omega arith)
      | inr e ↦ let rest = edited_count n test change few ps in let new = count_of-cons n q (edit_first test change ps) in rw e (omega arith)
    ]

-- ---- numbers that are new

module _ (n : Number) where
  -- none has a number of a later place
  later_none : (ps : List Pending) (j : ℕ) → All (λ q. q.number.place < j) ps → n.place ≡ j → count_of n ps ≡ 0
  later_none [] j all same = refl
  later_none (q ∷ ps) j all same =
      let low = All-head (λ r. r.number.place < j) q ps all in
      let rest = later_none ps j (All-tail (λ r. r.number.place < j) q ps all) same in
      rw (and_left (nat_eq q.number.place n.place) (nat_eq q.number.index n.index) (ne_eqb q.number.place n.place (λ e. omega arith))) rest

  numbered_elsewhere : (j i : ℕ) (cs : List (List ℤ)) → (n.place ≡ j → ⊥) → count_of n (numbered j i cs) ≡ 0
  numbered_elsewhere j i [] other = refl
  numbered_elsewhere j i (c ∷ cs) other =
      rw (and_left (nat_eq j n.place) (nat_eq i n.index) (ne_eqb j n.place (λ e. other (sym e)))) (numbered_elsewhere j (suc i) cs other)

  numbered_low : (j i : ℕ) (cs : List (List ℤ)) → n.index < i → count_of n (numbered j i cs) ≡ 0
  numbered_low j i [] low = refl
  numbered_low j i (c ∷ cs) low =
      rw (and_right (nat_eq j n.place) (nat_eq i n.index) (ne_eqb i n.index (λ e. omega arith))) (numbered_low j (suc i) cs (omega arith))

  numbered_high : (j i : ℕ) (cs : List (List ℤ)) → i + length cs ≤ n.index → count_of n (numbered j i cs) ≡ 0
  numbered_high j i [] high = refl
  numbered_high j i (c ∷ cs) high =
      rw (and_right (nat_eq j n.place) (nat_eq i n.index) (ne_eqb i n.index (λ e. omega arith))) (numbered_high j (suc i) cs (omega arith))

  pub numbered_once : (j i : ℕ) (cs : List (List ℤ)) → count_of n (numbered j i cs) ≤ 1
  numbered_once j i [] = omega arith
  numbered_once j i (c ∷ cs) = elim (cases_eq i n.index) [
    | inl same ↦
        let rest = numbered_low j (suc i) cs (omega arith) in
        elim (cases_Bool (nat_eq j n.place && nat_eq i n.index)) [
          | inl e ↦ rw e (omega arith)
          | inr e ↦ rw e (omega arith)
        ]
    | inr other ↦ rw (and_right (nat_eq j n.place) (nat_eq i n.index) (ne_eqb i n.index other)) (numbered_once j (suc i) cs)
  ]

  kept_elsewhere : (j i k : ℕ) (kept : Option (List ℤ)) → (n.place ≡ j → ⊥) → count_of n (kept_part j i k kept) ≡ 0
  kept_elsewhere j i k None other = refl
  kept_elsewhere j i k (Some c) other = rw (and_left (nat_eq j n.place) (nat_eq i n.index) (ne_eqb j n.place (λ e. other (sym e)))) refl

  kept_low : (j i k : ℕ) (kept : Option (List ℤ)) → n.index < i → count_of n (kept_part j i k kept) ≡ 0
  kept_low j i k None low = refl
  kept_low j i k (Some c) low = rw (and_right (nat_eq j n.place) (nat_eq i n.index) (ne_eqb i n.index (λ e. omega arith))) refl

  kept_once : (j i k : ℕ) (kept : Option (List ℤ)) → count_of n (kept_part j i k kept) ≤ 1
  kept_once j i k None = omega arith
  kept_once j i k (Some c) = elim (cases_Bool (nat_eq j n.place && nat_eq i n.index)) [
    | inl e ↦ rw e (omega arith)
    | inr e ↦ rw e (omega arith)
  ]

  parts_elsewhere : (j k : ℕ) (o : Outcome) → (n.place ≡ j → ⊥) → count_of n (parts_of j k o) ≡ 0
  parts_elsewhere j k o other =
      let both = count_of-append n (numbered j 0 o.rest) (kept_part j (length o.rest) k o.kept) in
      let rest = numbered_elsewhere j 0 o.rest other in
      let kept = kept_elsewhere j (length o.rest) k o.kept other in
      omega arith

  parts_once : (j k : ℕ) (o : Outcome) → count_of n (parts_of j k o) ≤ 1
  parts_once j k o =
      let both = count_of-append n (numbered j 0 o.rest) (kept_part j (length o.rest) k o.kept) in
      elim (cases_lt n.index (length o.rest)) [
        | inl low ↦ let rest = numbered_once j 0 o.rest in let kept = kept_low j (length o.rest) k o.kept low in omega arith
        | inr high ↦ let rest = numbered_high j 0 o.rest (omega arith) in let kept = kept_once j (length o.rest) k o.kept in omega arith
      ]

numbered_placed : (j i : ℕ) (cs : List (List ℤ)) → All (λ q. q.number.place ≤ j) (numbered j i cs)
numbered_placed j i [] = All-nil (λ q. q.number.place ≤ j)
numbered_placed j i (c ∷ cs) =
    All-cons (λ q. q.number.place ≤ j) (record { number = record { place = j; index = i }; prefix = c; holder = None }) (numbered j (suc i) cs) (omega arith) (numbered_placed j (suc i) cs)

kept_placed : (j i k : ℕ) (kept : Option (List ℤ)) → All (λ q. q.number.place ≤ j) (kept_part j i k kept)
kept_placed j i k None = All-nil (λ q. q.number.place ≤ j)
kept_placed j i k (Some c) =
    All-cons (λ q. q.number.place ≤ j) (record { number = record { place = j; index = i }; prefix = c; holder = Some k }) [] (omega arith) (All-nil (λ q. q.number.place ≤ j))

-- ---- one event, and all

-- an edit that keeps the numbers
edited_numbers : (test : Pending → Bool) (change : Pending → List Pending) (ps : List Pending) (m : ℕ) → ((n : Number) (q : Pending) → count_of n (change q) ≤ cond (has_number n q) 1 0) → ((q : Pending) → q.number.place ≤ m → All (λ r. r.number.place ≤ m) (change q)) → AreNumbered ps m → AreNumbered (edit_first test change ps) m
edited_numbers test change ps m few low are = record {
  once = λ n. (let was = are.once n in let now = edited_count n test change (few n) ps in omega arith);
  placed = All-edited (λ q. q.number.place ≤ m) test change low ps are.placed;
}

later : (ps : List Pending) (m : ℕ) → AreNumbered ps m → AreNumbered ps (suc m)
later ps m are = record {
  once = are.once;
  placed = All-weaker (λ q. q.number.place ≤ m) (λ q. q.number.place ≤ suc m) (λ q low. omega arith) ps are.placed;
}

same_number : (n : Number) (q r : Pending) → r.number ≡ q.number → count_of n (r ∷ []) ≤ cond (has_number n q) 1 0
same_number n q r same =
    let one = count_of-cons n r [] in
    let alike : cond {A = ℕ} (has_number n r) 1 0 ≡ cond (has_number n q) 1 0 = ap (λ x. cond {A = ℕ} (nat_eq x.place n.place && nat_eq x.index n.index) 1 0) same in
    omega arith

-- what is left where the reported prefix is taken out
abbrev pub left_of : ℕ → Number → BookState → List Pending
left_of k n s = edit_first (is_held_by k n) taken_out s.pending

reported_numbers : (m k : ℕ) (n : Number) (o : Outcome) (found : Option Pending) (s : BookState) → AreNumbered s.pending m → AreNumbered (reported (suc m) k n o found s).pending (suc m)
reported_numbers m k n o None s are = later s.pending m are
reported_numbers m k n o (Some q) s are =
    let stays : AreNumbered (left_of k n s) m = edited_numbers (is_held_by k n) taken_out s.pending m (λ x r. omega arith) (λ r low. All-nil (λ y. y.number.place ≤ m)) are in
    record {
      once = λ x. (let both = count_of-append x (left_of k n s) (parts_of (suc m) k o) in
          elim (cases_eq x.place (suc m)) [
            | inl same ↦
                let old = later_none x (left_of k n s) (suc m) (All-weaker (λ r. r.number.place ≤ m) (λ r. r.number.place < suc m) (λ r low. omega arith) (left_of k n s) stays.placed) same in
                let new = parts_once x (suc m) k o in
                omega arith
            | inr other ↦ let old = stays.once x in let new = parts_elsewhere x (suc m) k o other in omega arith
          ]);
      placed = All-append (λ r. r.number.place ≤ suc m) (left_of k n s) (parts_of (suc m) k o) (later (left_of k n s) m stays).placed
          (All-append (λ r. r.number.place ≤ suc m) (numbered (suc m) 0 o.rest) (kept_part (suc m) (length o.rest) k o.kept) (numbered_placed (suc m) 0 o.rest) (kept_placed (suc m) (length o.rest) k o.kept));
    }

pub step_numbers : (m : ℕ) (e : Event) (s : BookState) → AreNumbered s.pending m → AreNumbered (step (suc m) e s).pending (suc m)
step_numbers m (Take k n) s are =
    later (edit_first (is_free n) (taken_by k) s.pending) m (edited_numbers (is_free n) (taken_by k) s.pending m (λ x q. same_number x q (record q { holder = Some k }) refl)
    (λ q low. All-cons (λ r. r.number.place ≤ m) (record q { holder = Some k }) [] low (All-nil (λ r. r.number.place ≤ m))) are)
step_numbers m (Report k n o) s are = reported_numbers m k n o (find (is_held_by k n) s.pending) s are
step_numbers m (Release k n) s are =
    later (edit_first (is_held_by k n) let_go s.pending) m (edited_numbers (is_held_by k n) let_go s.pending m (λ x q. same_number x q (record q { holder = None }) refl)
    (λ q low. All-cons (λ r. r.number.place ≤ m) (record q { holder = None }) [] low (All-nil (λ r. r.number.place ≤ m))) are)

events_number : (m : ℕ) (events : List Event) (s : BookState) → AreNumbered s.pending m → AreNumbered (steps_from (suc m) events s).pending (length events + m)
events_number m [] s are = rw (zero_more m) are
  where
    zero_more : (x : ℕ) → 0 + x ≡ x
    zero_more x = omega arith
events_number m (e ∷ es) s are = rw (one_more (length es)) (events_number (suc m) es (step (suc m) e s) (step_numbers m e s are))
  where
    one_more : (x : ℕ) → suc x + m ≡ x + suc m
    one_more x = omega arith

pub start_numbers : (cubes prefixes : List (List ℤ)) → AreNumbered (start_from cubes prefixes).pending 0
start_numbers cubes prefixes = record {
  once = λ n. numbered_once n 0 0 prefixes;
  placed = numbered_placed 0 0 prefixes;
}

pub numbers_are_distinct : (cubes prefixes : List (List ℤ)) (events : List Event) → AreNumbered (steps_from 1 events (start_from cubes prefixes)).pending (length events)
numbers_are_distinct cubes prefixes events =
    rw (sym none_more) (events_number 0 events (start_from cubes prefixes) (start_numbers cubes prefixes))
  where
    none_more : length events + 0 ≡ length events
    none_more = omega arith
