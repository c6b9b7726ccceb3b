-- What makes a clause a reason, and reasons in the picture.
use Rattle.std.proofs.Common.{◌≡◌, ℕ, ◌≤◌, true, false, cond, ◌&&◌, ◌||◌, nat_eq, nat_le, ℤ, neg_ℤ, nat_abs, List, [], ◌∷◌, None, is_none, refl, ap, ◌∙◌, inl, inr, arith}
use Rattle.std.specs.List.{list_all}
use Rattle.std.specs.Ordering.{int_eq}
use Rattle.std.proofs.lemmas.Bool.{and_parts, and_from, or_left, or_right, both_ways, cases_Bool, eq-eqb, eqb-true, le-leb}
use Rattle.sat_terms.proofs.CubeLemmas.{nat_abs-neg, int_eq-true}
use Rattle.search_region.specs.Trail as picture
use Rattle.search_region.proofs.Literals.{all_weaker}
use Rattle.chrono_trail.specs.declared.item.Item.{Item}
use Rattle.chrono_trail.specs.Items.{item_of, are_distinct}
use Rattle.chrono_trail.specs.Clauses.{is_false, is_or_false, false_upto, level_or_zero, rest_level, IsReason}
use Rattle.chrono_trail.specs.Pictures.{pictured, picture_of}
use Rattle.chrono_trail.proofs.Items.{none_is}
use Rattle.chrono_trail.proofs.Pictures.{false_by-picture}
use Rattle.chrono_trail.proofs.Clauses.{free_not_false}

-- a false literal is so by the item of its variable
pub false_low : (items : List Item) (m : ℤ) (k : ℕ) → are_distinct items ≡ true → is_false items m ≡ true →
    level_or_zero (item_of items (nat_abs m)) ≤ k → false_upto k items m ≡ true
false_low [] m k d wrong low = absurd (both_ways false refl wrong)
false_low (i ∷ later) m k d wrong low =
    let (alone, apart) = and_parts (is_none (item_of later (nat_abs i.lit))) (are_distinct later) d in
    elim (cases_Bool (int_eq m (neg_ℤ i.lit))) [
      | inl negated ↦
          let variable : nat_abs m ≡ nat_abs i.lit = ap nat_abs (int_eq-true m (neg_ℤ i.lit) negated) ∙ nat_abs-neg i.lit in
          let level : i.level ≤ k = rw (eq-eqb (nat_abs m) (nat_abs i.lit) variable) at low in
          or_left (int_eq m (neg_ℤ i.lit) && nat_le i.level k) (false_upto k later m)
          (and_from (int_eq m (neg_ℤ i.lit)) (nat_le i.level k) negated (le-leb i.level k level))
      | inr other ↦
          let rest : is_false later m ≡ true = rw other at wrong in
          or_right (int_eq m (neg_ℤ i.lit) && nat_le i.level k) (false_upto k later m)
          (elim (cases_Bool (nat_eq (nat_abs m) (nat_abs i.lit))) [
            | inl same ↦
                let none : item_of later (nat_abs m) ≡ None =
                ap (item_of later) (eqb-true (nat_abs m) (nat_abs i.lit) same) ∙ none_is (item_of later (nat_abs i.lit)) alone in
                absurd (both_ways (is_false later m) (free_not_false later m none) rest)
            | inr away ↦
                let below : level_or_zero (item_of later (nat_abs m)) ≤ k = rw away at low in
                false_low later m k apart rest below
          ])
    ]

-- each literal of the clause but l is false by an item of at most the level of the rest
pub rest_low : (items : List Item) (l : ℤ) (k : ℕ) (c : List ℤ) → are_distinct items ≡ true →
    list_all (is_or_false items l) c ≡ true → rest_level items l c ≤ k →
    list_all (λ m. int_eq m l || false_upto k items m) c ≡ true
rest_low items l k [] d all low = refl
rest_low items l k (m ∷ c) d all low =
    let (now, rest) = and_parts (is_or_false items l m) (list_all (is_or_false items l) c) all in
    let later = rest_low items l k c d rest (omega arith) in
    and_from (int_eq m l || false_upto k items m) (list_all (λ x. int_eq x l || false_upto k items x) c)
    (elim (cases_Bool (int_eq m l)) [
      | inl same ↦ or_left (int_eq m l) (false_upto k items m) same
      | inr other ↦
          let wrong : is_false items m ≡ true = rw other at now in
          let first : cond (int_eq m l) 0 (level_or_zero (item_of items (nat_abs m))) ≤ k = omega arith in
          let level : level_or_zero (item_of items (nat_abs m)) ≤ k = rw other at first in
          or_right (int_eq m l) (false_upto k items m) (false_low items m k d wrong level)
    ])
    later

pub pictured_reason : (clauses : List (List ℤ)) (older : List Item) (i : Item) (c : List ℤ) →
    IsReason older i c →
    picture.is_reason c (pictured clauses i) (picture_of clauses older) ≡ true
pictured_reason clauses older i c h =
    all_weaker (λ m. int_eq m i.lit || false_upto i.level older m)
    (λ m. int_eq m i.lit || picture.false_by i.level (picture_of clauses older) m)
    (λ m e. ap (λ b. int_eq m i.lit || b) (false_by-picture clauses i.level older m) ∙ e) c h.rest
