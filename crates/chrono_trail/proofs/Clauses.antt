-- The steps of a scan.
use Rattle.std.proofs.Common.{◌≡◌, ℕ, zero, suc, ◌+◌, ◌<◌, ◌≤◌, max, Bool, true, false, cond, nat_eq, ℤ, neg_ℤ, nat_abs, List, [], ◌∷◌, ◌++◌, length, get_or, take, Option, Some, None, is_none, refl, sym, ap, ◌∙◌, inl, inr, arith}
use Rattle.std.specs.List.{list_all}
use Rattle.std.specs.Ordering.{int_eq}
use Rattle.std.proofs.lemmas.Bool.{and_parts, and_from, or_from, or_cases, or_left, or_right, both_ways, cases_Bool, eqb-true, eqb-false, false_from_ne_true, leb-true}
use Rattle.std.proofs.lemmas.List.{take_more}
use Rattle.std.proofs.lemmas.List.Folds.{list_all_more, list_any_more, list_all_at}
use Rattle.sat_terms.specs.Cubes.{has_literal}
use Rattle.sat_terms.proofs.CubeLemmas.{nat_abs-neg, int_eq-same, int_eq-true, int_eq-other, neg-not_same}
use Rattle.search_region.proofs.Literals.{same_variable, test_from_same, all_weaker}
use Rattle.chrono_trail.specs.declared.item.Item.{Item}
use Rattle.chrono_trail.specs.Items.{item_of, value_in, level_in, are_distinct, is_upto}
use Rattle.chrono_trail.specs.Clauses.{is_false, is_or_false, IsUnit, level_or_zero, rest_level}
use Rattle.chrono_trail.proofs.Items.{none_is}
use Rattle.chrono_trail.specs.Clauses.{IsAtRest}

-- what a scan has told of the literals that it saw
abbrev pub SoFar : List Item → List ℤ → Option ℤ → Type 0
SoFar items c None = list_all (is_false items) c ≡ true
SoFar items c (Some l) = IsUnit items l c

-- an item is of its variable
pub item_variable : (items : List Item) (v : ℕ) (i : Item) → item_of items v ≡ Some i → nat_abs i.lit ≡ v
item_variable [] v i h = cc
item_variable (j ∷ later) v i h =
    elim (cases_Bool (nat_eq v (nat_abs j.lit))) [
      | inl same ↦ let here : Some j ≡ Some i = rw same at h in let k : j ≡ i = cc in ap (λ (x : Item). nat_abs x.lit) (sym k) ∙ sym (eqb-true v (nat_abs j.lit) same)
      | inr other ↦ let rest : item_of later v ≡ Some i = rw other at h in item_variable later v i rest
    ]

-- a literal whose variable has no item is not false
pub free_not_false : (items : List Item) (l : ℤ) → item_of items (nat_abs l) ≡ None → is_false items l ≡ false
free_not_false [] l h = refl
free_not_false (i ∷ later) l h =
    elim (cases_Bool (nat_eq (nat_abs l) (nat_abs i.lit))) [
      | inl same ↦ let none : Some i ≡ None = rw same at h in cc
      | inr other ↦
          let rest : item_of later (nat_abs l) ≡ None = rw other at h in
          or_from (int_eq l (neg_ℤ i.lit)) (is_false later l)
          (false_from_ne_true (int_eq l (neg_ℤ i.lit)) (λ b. eqb-false (nat_abs l) (nat_abs i.lit) other (ap nat_abs (int_eq-true l (neg_ℤ i.lit) b) ∙ nat_abs-neg i.lit)))
          (free_not_false later l rest)
    ]

-- a literal whose variable has the other literal is false
pub false_from_other : (items : List Item) (l : ℤ) (i : Item) → item_of items (nat_abs l) ≡ Some i → (i.lit ≡ l → ⊥) → is_false items l ≡ true
false_from_other [] l i h other = cc
false_from_other (j ∷ later) l i h other =
    elim (cases_Bool (nat_eq (nat_abs l) (nat_abs j.lit))) [
      | inl same ↦
          let here : Some j ≡ Some i = rw same at h in
          let k : j ≡ i = cc in
          or_left (int_eq l (neg_ℤ j.lit)) (is_false later l)
          (elim (same_variable l j.lit (eqb-true (nat_abs l) (nat_abs j.lit) same)) [
            | inl equal ↦ absurd (other (sym (ap (λ (x : Item). x.lit) k) ∙ sym equal))
            | inr negated ↦ test_from_same l (neg_ℤ j.lit) negated
          ])
      | inr away ↦
          let rest : item_of later (nat_abs l) ≡ Some i = rw away at h in
          or_right (int_eq l (neg_ℤ j.lit)) (is_false later l) (false_from_other later l i rest other)
    ]

-- a literal on the trail is not
pub true_not_false : (items : List Item) (l : ℤ) (i : Item) → are_distinct items ≡ true → 0 < nat_abs l → item_of items (nat_abs l) ≡ Some i → i.lit ≡ l → is_false items l ≡ false
true_not_false [] l i d named h on = refl
true_not_false (j ∷ later) l i d named h on =
    let (alone, apart) = and_parts (is_none (item_of later (nat_abs j.lit))) (are_distinct later) d in
    elim (cases_Bool (nat_eq (nat_abs l) (nat_abs j.lit))) [
      | inl same ↦
          let here : Some j ≡ Some i = rw same at h in
          let k : j ≡ i = cc in
          let equal : j.lit ≡ l = ap (λ (x : Item). x.lit) k ∙ on in
          or_from (int_eq l (neg_ℤ j.lit)) (is_false later l)
          (false_from_ne_true (int_eq l (neg_ℤ j.lit)) (λ b. neg-not_same l named (sym (int_eq-true l (neg_ℤ j.lit) b ∙ ap neg_ℤ equal))))
          (free_not_false later l (ap (item_of later) (eqb-true (nat_abs l) (nat_abs j.lit) same) ∙ none_is (item_of later (nat_abs j.lit)) alone))
      | inr away ↦
          let rest : item_of later (nat_abs l) ≡ Some i = rw away at h in
          or_from (int_eq l (neg_ℤ j.lit)) (is_false later l)
          (false_from_ne_true (int_eq l (neg_ℤ j.lit)) (λ b. eqb-false (nat_abs l) (nat_abs j.lit) away (ap nat_abs (int_eq-true l (neg_ℤ j.lit) b) ∙ nat_abs-neg j.lit)))
          (true_not_false later l i apart named rest on)
    ]

-- what the value of a literal tells
pub value_false : (items : List Item) (l : ℤ) → value_in l (item_of items (nat_abs l)) ≡ Some false → is_false items l ≡ true
value_false items l h = go (item_of items (nat_abs l)) refl h
  where
    go : (o : Option Item) → item_of items (nat_abs l) ≡ o → value_in l o ≡ Some false → is_false items l ≡ true
    go None e g = cc
    go (Some i) e g = false_from_other items l i e (λ same. let b : int_eq i.lit l ≡ false = cc in both_ways (int_eq i.lit l) b (test_from_same i.lit l same))

pub value_none : (items : List Item) (l : ℤ) → value_in l (item_of items (nat_abs l)) ≡ None → item_of items (nat_abs l) ≡ None
value_none items l h = go (item_of items (nat_abs l)) h
  where
    go : (o : Option Item) → value_in l o ≡ None → o ≡ None
    go None g = refl
    go (Some i) g = cc

-- a true literal is neither false nor unassigned
pub value_true : (items : List Item) (l : ℤ) → are_distinct items ≡ true → 0 < nat_abs l → value_in l (item_of items (nat_abs l)) ≡ Some true → (is_false items l ≡ false) × (item_of items (nat_abs l) ≡ None → ⊥)
value_true items l d named h = go (item_of items (nat_abs l)) refl h
  where
    go : (o : Option Item) → item_of items (nat_abs l) ≡ o → value_in l o ≡ Some true → (is_false items l ≡ false) × (item_of items (nat_abs l) ≡ None → ⊥)
    go None e g = cc
    go (Some i) e g =
        let b : int_eq i.lit l ≡ true = cc in
        (true_not_false items l i d named e (int_eq-true i.lit l b), λ none. let clash : Some i ≡ None = sym e ∙ none in cc)

-- one literal more of which all hold
all_more : (p : ℤ → Bool) (c : List ℤ) (i : ℕ) (d : ℤ) → i < length c → list_all p (take i c) ≡ true → p (get_or c i d) ≡ true →
    list_all p (take (i + 1) c) ≡ true
all_more p c i d h before here = list_all_more p c i d h ∙ and_from (list_all p (take i c)) (p (get_or c i d)) before here

-- one more false literal
pub so_far_false : (items : List Item) (c : List ℤ) (free : Option ℤ) (i : ℕ) (d : ℤ) → i < length c → SoFar items (take i c) free →
    is_false items (get_or c i d) ≡ true → SoFar items (take (i + 1) c) free
so_far_false items c None i d h before wrong = all_more (is_false items) c i d h before wrong
so_far_false items c (Some l) i d h before wrong = record {
  free = before.free;
  among = list_any_more (int_eq l) c i d h ∙ or_left (has_literal (take i c) l) (int_eq l (get_or c i d)) before.among;
  rest = all_more (is_or_false items l) c i d h before.rest (or_right (int_eq (get_or c i d) l) (is_false items (get_or c i d)) wrong);
}

-- a first free one
pub so_far_free : (items : List Item) (c : List ℤ) (i : ℕ) (d : ℤ) → i < length c → SoFar items (take i c) None →
    item_of items (nat_abs (get_or c i d)) ≡ None → IsUnit items (get_or c i d) (take (i + 1) c)
so_far_free items c i d h before free =
    let m : ℤ = get_or c i d in
    record {
      free = free;
      among = list_any_more (int_eq m) c i d h ∙ or_right (has_literal (take i c) m) (int_eq m m) (int_eq-same m);
      rest = all_more (is_or_false items m) c i d h
          (all_weaker (is_false items) (is_or_false items m) (λ k e. or_right (int_eq k m) (is_false items k) e) (take i c) before)
          (or_left (int_eq m m) (is_false items m) (int_eq-same m));
    }

-- the same free one again
pub so_far_again : (items : List Item) (c : List ℤ) (l : ℤ) (i : ℕ) (d : ℤ) → i < length c → IsUnit items l (take i c) →
    l ≡ get_or c i d → IsUnit items l (take (i + 1) c)
so_far_again items c l i d h before same = record {
  free = before.free;
  among = list_any_more (int_eq l) c i d h ∙ or_left (has_literal (take i c) l) (int_eq l (get_or c i d)) before.among;
  rest = all_more (is_or_false items l) c i d h before.rest (or_left (int_eq (get_or c i d) l) (is_false items (get_or c i d)) (test_from_same (get_or c i d) l (sym same)));
}

-- what holds of all literals holds of the one at a place
all_at : (p : ℤ → Bool) (c : List ℤ) (i : ℕ) (d : ℤ) → i < length c → list_all p c ≡ true → p (get_or c i d) ≡ true
all_at p [] i d h e = absurd (omega arith)
all_at p (m ∷ c) zero d h e = (and_parts (p m) (list_all p c) e).0
all_at p (m ∷ c) (suc i) d h e = all_at p c i d (omega arith) (and_parts (p m) (list_all p c) e).1

-- a clause with a literal that is not false, and is unassigned at most where it is l itself, is unit by l at most
not_unit_by : (items : List Item) (c : List ℤ) (l : ℤ) (i : ℕ) (d : ℤ) → i < length c → is_false items (get_or c i d) ≡ false → IsUnit items l c → get_or c i d ≡ l
not_unit_by items c l i d h off unit =
    elim (or_cases (int_eq (get_or c i d) l) (is_false items (get_or c i d)) (all_at (is_or_false items l) c i d h unit.rest)) [
      | inl same ↦ int_eq-true (get_or c i d) l same
      | inr wrong ↦ absurd (both_ways (is_false items (get_or c i d)) off wrong)
    ]

-- a clause with a true literal is at rest
pub rest_from_true : (items : List Item) (c : List ℤ) (i : ℕ) (d : ℤ) → i < length c → are_distinct items ≡ true → 0 < nat_abs (get_or c i d) → value_in (get_or c i d) (item_of items (nat_abs (get_or c i d))) ≡ Some true → IsAtRest items c
rest_from_true items c i d h apart named value =
    let (off, on) = value_true items (get_or c i d) apart named value in
    record {
      not_false = list_all_at (is_false items) c i d h off;
      not_unit = λ l unit. on (ap (λ (m : ℤ). item_of items (nat_abs m)) (not_unit_by items c l i d h off unit) ∙ unit.free);
    }

-- the literal of a unit clause stands at some place before
among_at : (c : List ℤ) (l : ℤ) (n : ℕ) (d : ℤ) → has_literal (take n c) l ≡ true → (i : ℕ) × ((i < length c) × (get_or c i d ≡ l))
among_at c l zero d h = absurd (both_ways false refl h)
among_at [] l (suc n) d h = absurd (both_ways false refl h)
among_at (m ∷ c) l (suc n) d h =
    elim (or_cases (int_eq l m) (has_literal (take n c) l) h) [
      | inl same ↦ (0, (omega arith, sym (int_eq-true l m same)))
      | inr rest ↦ let (i, more) = among_at c l n d rest in (suc i, (omega (arith, more.0), more.1))
    ]

-- a clause with two different unassigned literals is at rest
pub rest_from_two : (items : List Item) (c : List ℤ) (l : ℤ) (i : ℕ) (d : ℤ) → i < length c → IsUnit items l (take i c) → (l ≡ get_or c i d → ⊥) → item_of items (nat_abs (get_or c i d)) ≡ None → IsAtRest items c
rest_from_two items c l i d h unit other free =
    let off = free_not_false items (get_or c i d) free in
    let (j, at) = among_at c l i d unit.among in
    let off_first : is_false items (get_or c j d) ≡ false = free_not_false items (get_or c j d) (ap (λ (m : ℤ). item_of items (nat_abs m)) at.1 ∙ unit.free) in
    record {
      not_false = list_all_at (is_false items) c i d h off;
      not_unit = λ m whole. other (sym at.1 ∙ not_unit_by items c m j d at.0 off_first whole ∙ sym (not_unit_by items c m i d h off whole));
    }

-- one more literal of a rest
max_assoc : (a b c : ℕ) → max (max a b) c ≡ max a (max b c)
max_assoc a b c = omega arith

pub rest_level-push : (items : List Item) (l : ℤ) (c : List ℤ) (m : ℤ) → rest_level items l (c ++ m ∷ []) ≡ max (cond (int_eq m l) 0 (level_or_zero (item_of items (nat_abs m)))) (rest_level items l c)
rest_level-push items l [] m = refl
rest_level-push items l (k ∷ c) m =
    let before = rest_level-push items l c m in
    rw before (omega arith)

-- no level of a rest is above the current one
low_level : (items : List Item) (v k : ℕ) → list_all (is_upto k) items ≡ true → level_or_zero (item_of items v) ≤ k
low_level [] v k h = omega arith
low_level (i ∷ later) v k h =
    let (now, rest) = and_parts (is_upto k i) (list_all (is_upto k) later) h in
    elim (cases_Bool (nat_eq v (nat_abs i.lit))) [
      | inl same ↦ rw same (leb-true i.level k now)
      | inr other ↦ rw other (low_level later v k rest)
    ]

pub low_rest : (items : List Item) (l : ℤ) (k : ℕ) (c : List ℤ) → list_all (is_upto k) items ≡ true → rest_level items l c ≤ k
low_rest items l k [] h = omega arith
low_rest items l k (m ∷ c) h =
    let more = low_rest items l k c h in
    let here = low_level items (nat_abs m) k h in
    elim (cases_Bool (int_eq m l)) [
      | inl same ↦ rw same (omega arith)
      | inr other ↦ rw other (omega arith)
    ]

-- one more literal looked at
pub level_skips : (items : List Item) (l : ℤ) (c : List ℤ) (i : ℕ) (d : ℤ) → i < length c → get_or c i d ≡ l → rest_level items l (take (i + 1) c) ≡ rest_level items l (take i c)
level_skips items l c i d h same =
    rw (take_more c i d h, rest_level-push items l (take i c) (get_or c i d), test_from_same (get_or c i d) l same) (omega arith)

pub level_takes : (items : List Item) (l : ℤ) (c : List ℤ) (i : ℕ) (d : ℤ) → i < length c → (get_or c i d ≡ l → ⊥) → rest_level items l (take (i + 1) c) ≡ max (level_or_zero (item_of items (nat_abs (get_or c i d)))) (rest_level items l (take i c))
level_takes items l c i d h other =
    rw (take_more c i d h, rest_level-push items l (take i c) (get_or c i d), int_eq-other (get_or c i d) l other) refl

pub level_told : (o : Option Item) (k : ℕ) → Some k ≡ level_in o → level_or_zero o ≡ k
level_told None k h = cc
level_told (Some i) k h = cc

pub level_untold : (o : Option Item) → None ≡ level_in o → level_or_zero o ≡ 0
level_untold None h = refl
level_untold (Some i) h = cc
