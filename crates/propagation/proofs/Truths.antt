-- Literals that are true or false under a trail.
use Rattle.std.proofs.Common.{◌≡◌, ◌<◌, ◌≤◌, ◌||◌, arith, Bool, true, false, not, List, [], ◌∷◌, ◌++◌, ℕ, ℤ, neg_ℤ, nat_abs, nat_eq, Option, Some, None, refl, sym, ap, ap₂, subst, ◌∙◌, inl, inr, take, drop}
use Rattle.std.specs.Ordering.{int_eq}
use Rattle.std.proofs.lemmas.Bool.{both_ways, or_cases, or_left, or_right, cases_Bool, false_from_ne_true}
use Rattle.std.proofs.lemmas.List.Folds.{list_any-append}
use Rattle.std.proofs.lemmas.List.{take-append-drop}
use Rattle.sat_terms.proofs.CubeLemmas.{neg-neg, nat_abs-neg, int_eq-true}
use Rattle.search_region.proofs.Literals.{test_from_same, same_variable}
use Rattle.chrono_trail.specs.declared.item.Item.{Item}
use Rattle.sat_terms.specs.Cubes.{has_literal}
use Rattle.chrono_trail.specs.Items.{item_of, value_in, level_in, are_distinct}
use Rattle.chrono_trail.specs.Trails.{IsTrail}
use Rattle.chrono_trail.specs.Clauses.{is_true, is_false, level_or_zero, rest_level}
use Rattle.chrono_trail.proofs.Back.{all_low}
use Rattle.chrono_trail.proofs.Clauses.{level_told, low_rest, item_variable, free_not_false, false_from_other, true_not_false}

-- a literal is false where its negation is on the trail
test_negated : (l x : ℤ) → int_eq (neg_ℤ l) x ≡ int_eq l (neg_ℤ x)
test_negated l x =
    elim (cases_Bool (int_eq l (neg_ℤ x))) [
      | inl same ↦ test_from_same (neg_ℤ l) x (ap neg_ℤ (int_eq-true l (neg_ℤ x) same) ∙ neg-neg x) ∙ sym same
      | inr other ↦
          false_from_ne_true (int_eq (neg_ℤ l) x) (λ b. both_ways (int_eq l (neg_ℤ x)) other (test_from_same l (neg_ℤ x) (sym (neg-neg l) ∙ ap neg_ℤ (int_eq-true (neg_ℤ l) x b))))
          ∙ sym other
    ]

pub true_negated : (items : List Item) (l : ℤ) → is_true items (neg_ℤ l) ≡ is_false items l
true_negated [] l = refl
true_negated (i ∷ later) l = ap₂ (λ a b. a || b) (test_negated l i.lit) (true_negated later l)

-- a literal is true where its negation is false
pub true_is : (items : List Item) (l : ℤ) → is_true items l ≡ is_false items (neg_ℤ l)
true_is items l = ap (is_true items) (sym (neg-neg l)) ∙ true_negated items (neg_ℤ l)

-- a literal that its variable's item has is on the trail
pub true_from_item : (items : List Item) (l : ℤ) (i : Item) → item_of items (nat_abs l) ≡ Some i → l ≡ i.lit → is_true items l ≡ true
true_from_item [] l i h same = cc
true_from_item (j ∷ later) l i h same =
    elim (cases_Bool (nat_eq (nat_abs l) (nat_abs j.lit))) [
      | inl here ↦
          let some : Some j ≡ Some i = rw here at h in
          let equal : i ≡ j = cc in
          or_left (int_eq l j.lit) (is_true later l) (test_from_same l j.lit (same ∙ ap (λ (x : Item). x.lit) equal))
      | inr away ↦
          let rest : item_of later (nat_abs l) ≡ Some i = rw away at h in
          or_right (int_eq l j.lit) (is_true later l) (true_from_item later l i rest same)
    ]

-- no literal is true and false
pub not_both : (items : List Item) (l : ℤ) → are_distinct items ≡ true → 0 < nat_abs l →
    is_true items l ≡ true → is_false items l ≡ true → ⊥
not_both items l apart named one other = go (item_of items (nat_abs l)) refl
  where
    negated : nat_abs (neg_ℤ l) ≡ nat_abs l
    negated = nat_abs-neg l

    go : (o : Option Item) → item_of items (nat_abs l) ≡ o → ⊥
    go None e = both_ways (is_false items l) (free_not_false items l e) other
    go (Some i) e =
        elim (same_variable i.lit l (item_variable items (nat_abs l) i e)) [
          | inl same ↦ both_ways (is_false items l) (true_not_false items l i apart named e same) other
          | inr opposite ↦
              let some : 0 < nat_abs (neg_ℤ l) = subst (λ n. 0 < n) (sym negated) named in
              let here : item_of items (nat_abs (neg_ℤ l)) ≡ Some i = ap (item_of items) negated ∙ e in
              both_ways (is_false items (neg_ℤ l)) (true_not_false items (neg_ℤ l) i apart some here opposite) (sym (true_is items l) ∙ one)
        ]

pub true_is_not_false : (items : List Item) (l : ℤ) → are_distinct items ≡ true → 0 < nat_abs l → is_true items l ≡ true → is_false items l ≡ false
true_is_not_false items l apart named on = false_from_ne_true (is_false items l) (λ off. not_both items l apart named on off)

pub false_is_not_true : (items : List Item) (l : ℤ) → are_distinct items ≡ true → 0 < nat_abs l → is_false items l ≡ true → is_true items l ≡ false
false_is_not_true items l apart named off = false_from_ne_true (is_true items l) (λ on. not_both items l apart named on off)

-- a literal whose variable has no item is neither
pub free_not_true : (items : List Item) (l : ℤ) → item_of items (nat_abs l) ≡ None → is_true items l ≡ false
free_not_true items l free = true_is items l ∙ free_not_false items (neg_ℤ l) (ap (item_of items) (nat_abs-neg l) ∙ free)

-- what the value of a literal tells
pub value_told : (items : List Item) (l : ℤ) → are_distinct items ≡ true → 0 < nat_abs l → (b : Bool) →
    value_in l (item_of items (nat_abs l)) ≡ Some b → (is_true items l ≡ b) × (is_false items l ≡ not b)
value_told items l apart named b h = go (item_of items (nat_abs l)) refl h
  where
    go : (o : Option Item) → item_of items (nat_abs l) ≡ o → value_in l o ≡ Some b → (is_true items l ≡ b) × (is_false items l ≡ not b)
    go None e told = cc
    go (Some i) e told =
        let test : int_eq i.lit l ≡ b = cc in
        elim (cases_Bool b) [
          | inl yes_b ↦
              let on = true_from_item items l i e (sym (int_eq-true i.lit l (test ∙ yes_b))) in
              (on ∙ sym yes_b, true_is_not_false items l apart named on ∙ ap not (sym yes_b))
          | inr no_b ↦
              let off = false_from_other items l i e (λ same. both_ways (int_eq i.lit l) (test ∙ no_b) (test_from_same i.lit l same)) in
              (false_is_not_true items l apart named off ∙ sym no_b, off ∙ ap not (sym no_b))
        ]

pub value_untold : (items : List Item) (l : ℤ) → value_in l (item_of items (nat_abs l)) ≡ None →
    (is_true items l ≡ false) × ((is_false items l ≡ false) × (item_of items (nat_abs l) ≡ None))
value_untold items l h = go (item_of items (nat_abs l)) refl h
  where
    go : (o : Option Item) → item_of items (nat_abs l) ≡ o → value_in l o ≡ None → (is_true items l ≡ false) × ((is_false items l ≡ false) × (item_of items (nat_abs l) ≡ None))
    go None e told = (free_not_true items l e, (free_not_false items l e, e))
    go (Some i) e told = cc

-- a literal that is neither true nor false is free
pub free_from : (items : List Item) (l : ℤ) → is_true items l ≡ false → is_false items l ≡ false → item_of items (nat_abs l) ≡ None
free_from items l on off = go (item_of items (nat_abs l)) refl
  where
    go : (o : Option Item) → item_of items (nat_abs l) ≡ o → item_of items (nat_abs l) ≡ None
    go None e = e
    go (Some i) e = elim (cases_Bool (int_eq l i.lit)) [
      | inl same ↦ absurd (both_ways (is_true items l) on (true_from_item items l i e (int_eq-true l i.lit same)))
      | inr other ↦ absurd (both_ways (is_false items l) off (false_from_other items l i e (λ e. both_ways (int_eq l i.lit) other (test_from_same l i.lit (sym e)))))
    ]

-- items that are appended leave true and false literals so
pub true_more : (items more : List Item) (l : ℤ) → is_true items l ≡ true → is_true (items ++ more) l ≡ true
true_more items more l on = list_any-append (λ (i : Item). int_eq l i.lit) items more ∙ or_left (is_true items l) (is_true more l) on

pub false_more : (items more : List Item) (l : ℤ) → is_false items l ≡ true → is_false (items ++ more) l ≡ true
false_more items more l off = list_any-append (λ (i : Item). int_eq l (neg_ℤ i.lit)) items more ∙ or_left (is_false items l) (is_false more l) off

-- what is false by the first items is false
pub false_front : (items : List Item) (n : ℕ) (l : ℤ) → is_false (take n items) l ≡ true → is_false items l ≡ true
false_front items n l off = subst (λ xs. is_false xs l ≡ true) (take-append-drop n items) (false_more (take n items) (drop n items) l off)

-- the level of a false literal of a clause is not above that of the rest
pub level_in_rest : (items : List Item) (l from : ℤ) (c : List ℤ) → has_literal c from ≡ true → (from ≡ l → ⊥) →
    level_or_zero (item_of items (nat_abs from)) ≤ rest_level items l c
level_in_rest items l from [] among differs = absurd (both_ways false refl among)
level_in_rest items l from (m ∷ c) among differs = elim (or_cases (int_eq from m) (has_literal c from) among) [
  | inl here ↦
      let same = int_eq-true from m here in
      let other : int_eq m l ≡ false = false_from_ne_true (int_eq m l) (λ e. differs (same ∙ int_eq-true m l e)) in
      let level : level_or_zero (item_of items (nat_abs from)) ≡ level_or_zero (item_of items (nat_abs m)) = ap (λ k. level_or_zero (item_of items (nat_abs k))) same in
      rw other (omega arith)
  | inr later ↦ let more = level_in_rest items l from c later differs in omega arith
]

-- on the current level it is that of the rest
pub top_of_rest : (n : ℕ) (items : List Item) (top : ℕ) (l from : ℤ) (c : List ℤ) → IsTrail n items top → has_literal c from ≡ true → (from ≡ l → ⊥) →
    (k : ℕ) → top ≤ k → Some k ≡ level_in (item_of items (nat_abs from)) → k ≡ rest_level items l c
top_of_rest n items top l from c trail among differs k high told =
    let level = level_told (item_of items (nat_abs from)) k told in
    let under = level_in_rest items l from c among differs in
    let current = trail.current in
    let over = low_rest items l top c (all_low 0 top items trail.stands (omega arith)) in
    omega arith
