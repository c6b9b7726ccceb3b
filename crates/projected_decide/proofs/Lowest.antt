-- What is decided next is the lowest free variable.
use Rattle.std.proofs.Common.{◌≡◌, ℕ, zero, suc, ◌<◌, ◌≤◌, Bool, true, false, not, nat_eq, List, [], ◌∷◌, ◌++◌, length, get_or, take, filter, ℤ, pos, neg_ℤ, nat_abs, Option, Some, None, is_some, refl, sym, ap, subst, ◌∙◌, ◌⊎◌, inl, inr, arith}
use Rattle.std.specs.List.{All, list_all, range_with_len}
use Rattle.std.proofs.lemmas.List.{take_all}
use Rattle.std.proofs.lemmas.List.Elements.{All-head, All-tail}
use Rattle.std.proofs.lemmas.Bool.{and_parts, and_from, or_cases, or_left, or_right, both_ways, cases_Bool, eqb-true, eq-eqb, not-true, not_from_false}
use Rattle.std.proofs.lemmas.List.Kept.{AllPairs-from_increasing, AllPairs-filter}
use Rattle.std.proofs.lemmas.List.FromFn.{get_or-range_with_len, length-range_with_len}
use Rattle.sat_terms.specs.Cubes.{is_among}
use Rattle.sat_terms.specs.Subjects.{IsShown}
use Rattle.sat_terms.proofs.Variables.{All-among}
use Rattle.chrono_trail.specs.declared.item.Item.{Item}
use Rattle.chrono_trail.specs.Items.{item_of}
use Rattle.chrono_trail.specs.Trails.{IsTrail}
use Rattle.chrono_trail.proofs.Room.{room_for}
use Rattle.projected_decide.specs.Orders.{order_of, is_set, next_decision}
use Rattle.projected_decide.specs.Laws.{IsLowestFree}
use Rattle.projected_decide.proofs.Variables.{Rise, rise_tail, rise_head, among-filter, among_range, range_among}

-- ---- the walk has come to a free variable, or to the end

pub next_at : (items : List Item) (order : List ℕ) (r : ℕ) → list_all (is_set items) (take r order) ≡ true → r < length order →
    is_set items (get_or order r 0) ≡ false → next_decision items order ≡ Some (neg_ℤ (pos (get_or order r 0)))
next_at items [] r set inside free = absurd (omega arith)
next_at items (v ∷ later) zero set inside free = rw free refl
next_at items (v ∷ later) (suc r) set inside free =
    let (now, rest) = and_parts (is_set items v) (list_all (is_set items) (take r later)) set in
    rw now (next_at items later r rest (omega arith) free)

pub next_end : (items : List Item) (order : List ℕ) (r : ℕ) → list_all (is_set items) (take r order) ≡ true → length order ≤ r →
    next_decision items order ≡ None
next_end items [] r set end = refl
next_end items (v ∷ later) zero set end = absurd (omega arith)
next_end items (v ∷ later) (suc r) set end =
    let (now, rest) = and_parts (is_set items v) (list_all (is_set items) (take r later)) set in
    rw now (next_end items later r rest (omega arith))

is_free : (items : List Item) (v : ℕ) → is_set items v ≡ false → item_of items v ≡ None
is_free items v h = by (item_of items v) h
  where
    by : (o : Option Item) → is_some o ≡ false → o ≡ None
    by None e = refl
    by (Some i) e = cc

-- with an item of each variable the walk is at its end
pub all_set : (n : ℕ) (items : List Item) (level : ℕ) (order : List ℕ) → IsTrail n items level → n ≤ length items → All (λ v. 0 < v) order → All (λ v. v ≤ n) order →
    list_all (is_set items) order ≡ true
all_set n items level [] trail full named within = refl
all_set n items level (v ∷ later) trail full named within =
    and_from (is_set items v) (list_all (is_set items) later)
    (elim (cases_Bool (is_set items v)) [
      | inl set ↦ set
      | inr free ↦ absurd (let room = room_for n items level v trail (All-head (λ u. 0 < u) v later named) (All-head (λ u. u ≤ n) v later within) (is_free items v free) in omega arith)
    ])
    (all_set n items level later trail full (All-tail (λ u. 0 < u) v later named) (All-tail (λ u. u ≤ n) v later within))

pub full_ends : (n : ℕ) (items : List Item) (level : ℕ) (order : List ℕ) → IsTrail n items level → n ≤ length items → All (λ v. 0 < v) order → All (λ v. v ≤ n) order →
    next_decision items order ≡ None
full_ends n items level order trail full named within =
    next_end items order (length order) (ap (list_all (is_set items)) (take_all (length order) order (omega arith)) ∙ all_set n items level order trail full named within) (omega arith)

-- ---- what the answer says of a list

pub record IsFreeOf (items : List Item) (xs : List ℕ) (l : ℤ) : Type 0 where
  pub variable : ℕ
  pub lit : l ≡ neg_ℤ (pos variable)
  pub among : is_among xs variable ≡ true
  pub free : is_set items variable ≡ false

pub some_free : (items : List Item) (xs : List ℕ) (l : ℤ) → next_decision items xs ≡ Some l → IsFreeOf items xs l
some_free items [] l h = cc
some_free items (v ∷ later) l h = elim (cases_Bool (is_set items v)) [
  | inl set ↦
      let rest : next_decision items later ≡ Some l = rw set at h in
      let found = some_free items later l rest in
      record { variable = found.variable; lit = found.lit; free = found.free; among = or_right (nat_eq found.variable v) (is_among later found.variable) found.among }
  | inr free ↦
      let some : Some (neg_ℤ (pos v)) ≡ Some l = rw free at h in
      let same : l ≡ neg_ℤ (pos v) = cc in
      record { variable = v; lit = same; free = free; among = or_left (nat_eq v v) (is_among later v) (eq-eqb v v refl) }
]

pub variable_of : (v : ℕ) → nat_abs (neg_ℤ (pos v)) ≡ v
variable_of zero = refl
variable_of (suc v) = refl

pub none_set : (items : List Item) (xs : List ℕ) (v : ℕ) → next_decision items xs ≡ None → is_among xs v ≡ true → is_set items v ≡ true
none_set items [] v h among = cc
none_set items (x ∷ later) v h among = elim (cases_Bool (is_set items x)) [
  | inl set ↦
      let rest : next_decision items later ≡ None = rw set at h in
      elim (or_cases (nat_eq v x) (is_among later v) among) [
        | inl same ↦ subst (λ u. is_set items u ≡ true) (sym (eqb-true v x same)) set
        | inr after ↦ none_set items later v rest after
      ]
  | inr free ↦ let some : Some (neg_ℤ (pos x)) ≡ None = rw free at h in cc
]

-- in a list that rises, what is below the answer is assigned
pub lower_set : (items : List Item) (xs : List ℕ) (l : ℤ) (u : ℕ) → Rise xs → next_decision items xs ≡ Some l → is_among xs u ≡ true → u < nat_abs l →
    is_set items u ≡ true
lower_set items [] l u r h among below = cc
lower_set items (v ∷ later) l u r h among below = elim (cases_Bool (is_set items v)) [
  | inl set ↦
      let rest : next_decision items later ≡ Some l = rw set at h in
      elim (or_cases (nat_eq u v) (is_among later u) among) [
        | inl same ↦ subst (λ w. is_set items w ≡ true) (sym (eqb-true u v same)) set
        | inr after ↦ lower_set items later l u (rise_tail v later r) rest after below
      ]
  | inr free ↦
      let some : Some (neg_ℤ (pos v)) ≡ Some l = rw free at h in
      let same : l ≡ neg_ℤ (pos v) = cc in
      let size : nat_abs l ≡ v = ap nat_abs same ∙ variable_of v in
      absurd (elim (or_cases (nat_eq u v) (is_among later u) among) [
        | inl here ↦ let e = eqb-true u v here in omega arith
        | inr after ↦ let above = All-among (λ y. v < y) later u (rise_head v later r) after in omega arith
      ])
]

-- the answer for two lists is that for the first, or this is assigned and it is that for the second
pub next_of_two : (items : List Item) (xs ys : List ℕ) (l : ℤ) → next_decision items (xs ++ ys) ≡ Some l →
    (next_decision items xs ≡ Some l) ⊎ ((list_all (is_set items) xs ≡ true) × (next_decision items ys ≡ Some l))
next_of_two items [] ys l h = inr (refl, h)
next_of_two items (v ∷ later) ys l h = elim (cases_Bool (is_set items v)) [
  | inl set ↦
      let rest : next_decision items (later ++ ys) ≡ Some l = rw set at h in
      elim (next_of_two items later ys l rest) [
        | inl first ↦ inl (rw set first)
        | inr second ↦ inr (and_from (is_set items v) (list_all (is_set items) later) set second.0, second.1)
      ]
  | inr free ↦ let some : Some (neg_ℤ (pos v)) ≡ Some l = rw free at h in inl (rw free some)
]

pub none_of_two : (items : List Item) (xs ys : List ℕ) → next_decision items (xs ++ ys) ≡ None →
    (next_decision items xs ≡ None) × (next_decision items ys ≡ None)
none_of_two items [] ys h = (refl, h)
none_of_two items (v ∷ later) ys h = elim (cases_Bool (is_set items v)) [
  | inl set ↦
      let rest : next_decision items (later ++ ys) ≡ None = rw set at h in
      let (first, second) = none_of_two items later ys rest in
      (rw set first, second)
  | inr free ↦ let some : Some (neg_ℤ (pos v)) ≡ None = rw free at h in cc
]

-- ---- the order of a projection

hidden : List ℕ → ℕ → Bool
hidden shown v = not (is_among shown v)

rise_range : (a n : ℕ) → Rise (range_with_len a n)
rise_range a n = λ i j d below inside.
    let size = length-range_with_len a n in
    let first = get_or-range_with_len a n i d (omega arith) in
    let second = get_or-range_with_len a n j d (omega arith) in
    omega arith

pub decisions_are_lowest : (n : ℕ) (shown : List ℕ) (items : List Item) (l : ℤ) → IsShown n shown → next_decision items (order_of n shown) ≡ Some l →
    IsLowestFree n shown items l
decisions_are_lowest n shown items l s h = elim (next_of_two items shown (filter (λ v. not (is_among shown v)) (range_with_len 1 n)) l h) [
  | inl first ↦
      let found = some_free items shown l first in
      let size : nat_abs l ≡ found.variable = ap nat_abs found.lit ∙ variable_of found.variable in
      let shows : is_among shown (nat_abs l) ≡ true = ap (is_among shown) size ∙ found.among in
      let named = All-among (λ v. (0 < v) × (v ≤ n)) shown found.variable s.named found.among in
      record {
        negative = found.lit ∙ ap (λ v. neg_ℤ (pos v)) (sym size);
        named = (omega arith, omega arith);
        free = ap (item_of items) size ∙ is_free items found.variable found.free;
        late = λ hides. absurd (both_ways (is_among shown (nat_abs l)) hides shows);
        lowest = λ v some below same. lower_set items shown l v (AllPairs-from_increasing shown s.rising) first (same ∙ shows) below;
      }
  | inr second ↦
      let rest = filter (λ v. not (is_among shown v)) (range_with_len 1 n) in
      let found = some_free items rest l second.1 in
      let size : nat_abs l ≡ found.variable = ap nat_abs found.lit ∙ variable_of found.variable in
      let (out, within) = and_parts (not (is_among shown found.variable)) (is_among (range_with_len 1 n) found.variable)
      (sym (among-filter (λ v. not (is_among shown v)) (range_with_len 1 n) found.variable) ∙ found.among) in
      let hides : is_among shown (nat_abs l) ≡ false = ap (is_among shown) size ∙ not-true (is_among shown found.variable) out in
      let (low, high) = range_among 1 n found.variable within in
      record {
        negative = found.lit ∙ ap (λ v. neg_ℤ (pos v)) (sym size);
        named = (omega arith, omega arith);
        free = ap (item_of items) size ∙ is_free items found.variable found.free;
        late = λ _. second.0;
        lowest = λ v some below same. lower_set items rest l v (AllPairs-filter (λ x y. x < y) (λ u. not (is_among shown u)) (range_with_len 1 n) (rise_range 1 n)) second.1
            (among-filter (λ u. not (is_among shown u)) (range_with_len 1 n) v
            ∙ and_from (not (is_among shown v)) (is_among (range_with_len 1 n) v) (not_from_false (is_among shown v) (same ∙ hides))
            (among_range 1 n v (omega arith) (omega arith)))
            below;
      }
]

pub none_means_full : (n : ℕ) (shown : List ℕ) (items : List Item) → next_decision items (order_of n shown) ≡ None → (v : ℕ) → 0 < v → v ≤ n →
    is_set items v ≡ true
none_means_full n shown items h v low high =
    let (first, second) = none_of_two items shown (filter (λ u. not (is_among shown u)) (range_with_len 1 n)) h in
    elim (cases_Bool (is_among shown v)) [
      | inl shows ↦ none_set items shown v first shows
      | inr hides ↦ none_set items (filter (λ u. not (is_among shown u)) (range_with_len 1 n)) v second
          (among-filter (λ u. not (is_among shown u)) (range_with_len 1 n) v
          ∙ and_from (not (is_among shown v)) (is_among (range_with_len 1 n) v) (not_from_false (is_among shown v) hides)
          (among_range 1 n v (omega arith) (omega arith)))
    ]
