-- An item appended to a trail; a trail whose higher levels were taken back.
use Rattle.std.proofs.Common.{◌≡◌, ℕ, suc, ◌+◌, ◌≤◌, true, cond, nat_eq, List, [], ◌∷◌, ◌++◌, length, Option, Some, None, nat_abs, is_none, refl, sym, ◌∙◌, inl, inr, arith}
use Rattle.std.proofs.lemmas.Bool.{and_parts, and_from, cases_Bool, eqb-true, eqb-false, ne_eqb}
use Rattle.chrono_trail.specs.declared.item.Item.{Item}
use Rattle.chrono_trail.specs.Items.{item_of, are_distinct, is_decision, level_after, depth_from, may_stand, may_all_stand}

pub none_is : (o : Option Item) → is_none o ≡ true → o ≡ None
none_is None h = refl
none_is (Some e) h = cc

pub is_none_from : (o : Option Item) → o ≡ None → is_none o ≡ true
is_none_from o e = rw e refl

-- what an appended item tells
pub item_of-push : (items : List Item) (e : Item) (v : ℕ) → item_of items (nat_abs e.lit) ≡ None → item_of (items ++ e ∷ []) v ≡ cond (nat_eq v (nat_abs e.lit)) (Some e) (item_of items v)
item_of-push [] e v free = refl
item_of-push (i ∷ later) e v free =
    elim (cases_Bool (nat_eq (nat_abs e.lit) (nat_abs i.lit))) [
      | inl same ↦ let none : Some i ≡ None = rw same at free in cc
      | inr other ↦
          let rest : item_of later (nat_abs e.lit) ≡ None = rw other at free in
          elim (cases_Bool (nat_eq v (nat_abs i.lit))) [
            | inl here ↦ rw here (rw (ne_eqb v (nat_abs e.lit) (λ k. eqb-false (nat_abs e.lit) (nat_abs i.lit) other (sym k ∙ eqb-true v (nat_abs i.lit) here))) refl)
            | inr away ↦ rw away (item_of-push later e v rest)
          ]
    ]

pub distinct_push : (items : List Item) (e : Item) → are_distinct items ≡ true → item_of items (nat_abs e.lit) ≡ None → are_distinct (items ++ e ∷ []) ≡ true
distinct_push [] e d free = refl
distinct_push (i ∷ later) e d free =
    elim (cases_Bool (nat_eq (nat_abs e.lit) (nat_abs i.lit))) [
      | inl same ↦ let none : Some i ≡ None = rw same at free in cc
      | inr other ↦
          let rest : item_of later (nat_abs e.lit) ≡ None = rw other at free in
          let (alone, apart) = and_parts (is_none (item_of later (nat_abs i.lit))) (are_distinct later) d in
          and_from (is_none (item_of (later ++ e ∷ []) (nat_abs i.lit))) (are_distinct (later ++ e ∷ []))
          (rw (item_of-push later e (nat_abs i.lit) rest, ne_eqb (nat_abs i.lit) (nat_abs e.lit) (λ k. eqb-false (nat_abs e.lit) (nat_abs i.lit) other (sym k))) alone)
          (distinct_push later e apart rest)
    ]

pub depth_from-append : (k : ℕ) (xs ys : List Item) → depth_from k (xs ++ ys) ≡ depth_from (depth_from k xs) ys
depth_from-append k [] ys = refl
depth_from-append k (x ∷ xs) ys = depth_from-append (level_after k x) xs ys

pub stand_push : (k : ℕ) (items : List Item) (e : Item) → may_all_stand k items ≡ true → may_stand (depth_from k items) e ≡ true → may_all_stand k (items ++ e ∷ []) ≡ true
stand_push k [] e h g = and_from (may_stand k e) true g refl
stand_push k (i ∷ later) e h g =
    let (now, rest) = and_parts (may_stand k i) (may_all_stand (level_after k i) later) h in
    and_from (may_stand k i) (may_all_stand (level_after k i) (later ++ e ∷ [])) now (stand_push (level_after k i) later e rest g)

-- a level was opened by an item
pub depth_bound : (k : ℕ) (items : List Item) → may_all_stand k items ≡ true → depth_from k items ≤ k + length items
depth_bound k [] h = omega arith
depth_bound k (i ∷ later) h =
    let (now, rest) = and_parts (may_stand k i) (may_all_stand (level_after k i) later) h in
    let bound = depth_bound (level_after k i) later rest in
    elim (cases_Bool (is_decision i.kind)) [
      | inl yes_decided ↦
          let same : nat_eq i.level (suc k) ≡ true = rw yes_decided at now in
          let level = eqb-true i.level (suc k) same in
          let after : level_after k i ≡ i.level = rw yes_decided refl in
          omega arith
      | inr not_decided ↦
          let after : level_after k i ≡ k = rw not_decided refl in
          omega arith
    ]
