-- There are at most as many items as variables.
use Rattle.std.proofs.Common.{◌≡◌, ℕ, ◌+◌, ◌<◌, ◌≤◌, true, false, ◌||◌, nat_eq, nat_lt, nat_le, eqb, List, [], ◌∷◌, length, map, Some, None, nat_abs, is_none, refl, inl, inr, arith}
use Rattle.std.specs.List.{list_all, list_any, IsDistinct, AllByRecursion}
use Rattle.std.proofs.lemmas.Bool.{and_parts, or_cases, both_ways, cases_Bool, eqb-true, ne_eqb, ltb-true, leb-true}
use Rattle.std.proofs.lemmas.List.{length-map}
use Rattle.std.proofs.lemmas.Map.Keys.{IsDistinct-cons}
use Rattle.std.proofs.lemmas.Map.Steps.{length-le_from_distinct_below}
use Rattle.chrono_trail.specs.declared.item.Item.{Item}
use Rattle.chrono_trail.specs.Items.{item_of, is_within, are_distinct}
use Rattle.chrono_trail.specs.Trails.{IsTrail}
use Rattle.chrono_trail.proofs.Items.{none_is}

variable_of : Item → ℕ
variable_of i = nat_abs i.lit

abbrev variables_of : List Item → List ℕ
variables_of items = map (λ i. nat_abs i.lit) items

apart : (v : ℕ) (items : List Item) → item_of items v ≡ None → AllByRecursion (λ w. eqb v w ≡ false) (variables_of items)
apart v [] free = tt
apart v (i ∷ later) free =
    elim (cases_Bool (nat_eq v (nat_abs i.lit))) [
      | inl same ↦ let none : Some i ≡ None = rw same at free in cc
      | inr other ↦ let rest : item_of later v ≡ None = rw other at free in (other, apart v later rest)
    ]

all_apart : (items : List Item) → are_distinct items ≡ true → IsDistinct eqb (variables_of items)
unfolding IsDistinct
all_apart [] d = tt
all_apart (i ∷ later) d =
    let (alone, rest) = and_parts (is_none (item_of later (nat_abs i.lit))) (are_distinct later) d in
    IsDistinct-cons eqb (nat_abs i.lit) (variables_of later) (apart (nat_abs i.lit) later (none_is (item_of later (nat_abs i.lit)) alone)) (all_apart later rest)

all_below : (n : ℕ) (items : List Item) → list_all (is_within n) items ≡ true → (q : ℕ) → list_any (eqb q) (variables_of items) ≡ true → q < n + 1
all_below n [] w q h = absurd (both_ways false refl h)
all_below n (i ∷ later) w q h =
    let (now, rest) = and_parts (is_within n i) (list_all (is_within n) later) w in
    let (above, below) = and_parts (nat_lt 0 (nat_abs i.lit)) (nat_le (nat_abs i.lit) n) now in
    elim (or_cases (eqb q (nat_abs i.lit)) (list_any (eqb q) (variables_of later)) h) [
      | inl here ↦ let same = eqb-true q (nat_abs i.lit) here in let le = leb-true (nat_abs i.lit) n below in omega arith
      | inr there ↦ all_below n later rest q there
    ]

-- no item is of variable 0
pub none_of_zero : (n : ℕ) (items : List Item) → list_all (is_within n) items ≡ true → item_of items 0 ≡ None
none_of_zero n [] w = refl
none_of_zero n (i ∷ later) w =
    let (now, rest) = and_parts (is_within n i) (list_all (is_within n) later) w in
    let (above, below) = and_parts (nat_lt 0 (nat_abs i.lit)) (nat_le (nat_abs i.lit) n) now in
    let lt = ltb-true 0 (nat_abs i.lit) above in
    rw (ne_eqb 0 (nat_abs i.lit) (λ k. omega arith)) (none_of_zero n later rest)

pub items_bound : (n : ℕ) (items : List Item) (level : ℕ) → IsTrail n items level → length items ≤ n
items_bound n items level t =
    let long = length-le_from_distinct_below (0 ∷ variables_of items) (n + 1)
    (IsDistinct-cons eqb 0 (variables_of items) (apart 0 items (none_of_zero n items t.within)) (all_apart items t.distinct))
    (λ q h. elim (or_cases (eqb q 0) (list_any (eqb q) (variables_of items)) h) [
      | inl here ↦ let same = eqb-true q 0 here in omega arith
      | inr there ↦ all_below n items t.within q there
    ]) in
    omega (arith, length-map items (λ (i : Item). nat_abs i.lit))

-- where a variable has none, there is room for it
pub room_for : (n : ℕ) (items : List Item) (level v : ℕ) → IsTrail n items level → 0 < v → v ≤ n → item_of items v ≡ None → length items < n
room_for n items level v t above below free =
    let long = length-le_from_distinct_below (0 ∷ (v ∷ variables_of items)) (n + 1)
    (IsDistinct-cons eqb 0 (v ∷ variables_of items)
    (ne_eqb 0 v (λ k. omega arith), apart 0 items (none_of_zero n items t.within))
    (IsDistinct-cons eqb v (variables_of items) (apart v items free) (all_apart items t.distinct)))
    (λ q h. elim (or_cases (eqb q 0) (eqb q v || list_any (eqb q) (variables_of items)) h) [
      | inl here ↦ let same = eqb-true q 0 here in omega arith
      | inr there ↦ elim (or_cases (eqb q v) (list_any (eqb q) (variables_of items)) there) [
        | inl mid ↦ let same = eqb-true q v mid in omega arith
        | inr rest ↦ all_below n items t.within q rest
      ]
    ]) in
    omega (arith, length-map items (λ (i : Item). nat_abs i.lit))
