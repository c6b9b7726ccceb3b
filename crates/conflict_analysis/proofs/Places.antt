-- The item at a place, and those before it.
use Rattle.std.proofs.Common.{◌≡◌, ℕ, zero, suc, ◌<◌, true, false, ◌&&◌, ◌||◌, nat_eq, nat_lt, nat_le, ℤ, nat_abs, neg_ℤ, List, [], ◌∷◌, ◌++◌, length, get_or, take, Option, Some, None, is_none, is_some, refl, sym, ap, subst, ◌∙◌, inl, inr, arith, append_assoc, append-nil}
use Rattle.std.specs.List.{list_all}
use Rattle.std.specs.Ordering.{int_eq}
use Rattle.std.proofs.lemmas.Bool.{cases_Bool, and_parts, or_left, or_right, both_ways, eqb-true, eq-eqb, ltb-true, leb-true}
use Rattle.search_region.proofs.Literals.{all_weaker, any_weaker}
use Rattle.sat_terms.specs.Literals.{IsLiteralOf}
use Rattle.chrono_trail.specs.declared.item.Item.{Item}
use Rattle.chrono_trail.specs.Items.{item_of, are_distinct, is_within}
use Rattle.chrono_trail.specs.Clauses.{is_false, false_upto, IsReason}
use Rattle.chrono_trail.specs.Reasons.{HasReason, HaveReasons}
use Rattle.chrono_trail.proofs.Items.{none_is, item_of-push}

pub none_from : (o : Option Item) → is_some o ≡ false → o ≡ None
none_from None h = refl
none_from (Some i) h = absurd (both_ways true h refl)

-- a place has the item of its variable
some_at : (items : List Item) (at : ℕ) (d : Item) → at < length items → is_some (item_of items (nat_abs (get_or items at d).lit)) ≡ true
some_at [] at d h = absurd (omega arith)
some_at (i ∷ later) zero d h = rw (eq-eqb (nat_abs i.lit) (nat_abs i.lit) refl) refl
some_at (i ∷ later) (suc at) d h =
    elim (cases_Bool (nat_eq (nat_abs (get_or later at d).lit) (nat_abs i.lit))) [
      | inl same ↦ rw same refl
      | inr other ↦ rw other (some_at later at d (omega arith))
    ]

-- none before it is of its variable
pub none_before : (items : List Item) (at : ℕ) (d : Item) → at < length items → are_distinct items ≡ true → item_of (take at items) (nat_abs (get_or items at d).lit) ≡ None
none_before [] at d h apart = absurd (omega arith)
none_before (i ∷ later) zero d h apart = refl
none_before (i ∷ later) (suc at) d h apart =
    let v : ℕ = nat_abs (get_or later at d).lit in
    let (alone, rest) = and_parts (is_none (item_of later (nat_abs i.lit))) (are_distinct later) apart in
    elim (cases_Bool (nat_eq v (nat_abs i.lit))) [
      | inl same ↦
          let none : item_of later v ≡ None = ap (item_of later) (eqb-true v (nat_abs i.lit) same) ∙ none_is (item_of later (nat_abs i.lit)) alone in
          absurd (both_ways (is_some (item_of later v)) (ap is_some none) (some_at later at d (omega arith)))
      | inr other ↦ rw other (none_before later at d (omega arith) rest)
    ]

-- its reason
pub reason_at : (clauses : List (List ℤ)) (older items : List Item) (at : ℕ) (d : Item) → at < length items → HaveReasons clauses older items → HasReason clauses (older ++ take at items) (get_or items at d)
reason_at clauses older [] at d h r = absurd (omega arith)
reason_at clauses older (i ∷ later) zero d h r = subst (λ o. HasReason clauses o i) (sym (append-nil older)) r.0
reason_at clauses older (i ∷ later) (suc at) d h r =
    subst (λ o. HasReason clauses o (get_or later at d)) (append_assoc older (i ∷ []) (take at later)) (reason_at clauses (older ++ i ∷ []) later at d (omega arith) r.1)

-- its variable
pub within_at : (n : ℕ) (items : List Item) (at : ℕ) (d : Item) → at < length items → list_all (is_within n) items ≡ true → IsLiteralOf n (get_or items at d).lit
within_at n [] at d h w = absurd (omega arith)
within_at n (i ∷ later) zero d h w =
    let (now, rest) = and_parts (is_within n i) (list_all (is_within n) later) w in
    let (above, below) = and_parts (nat_lt 0 (nat_abs i.lit)) (nat_le (nat_abs i.lit) n) now in
    (ltb-true 0 (nat_abs i.lit) above, leb-true (nat_abs i.lit) n below)
within_at n (i ∷ later) (suc at) d h w = within_at n later at d (omega arith) (and_parts (is_within n i) (list_all (is_within n) later) w).1

-- a reason's other literals are false
pub reason_false : (older : List Item) (i : Item) (c : List ℤ) → IsReason older i c → list_all (λ m. int_eq m i.lit || is_false older m) c ≡ true
reason_false older i c h =
    all_weaker (λ m. int_eq m i.lit || false_upto i.level older m) (λ m. int_eq m i.lit || is_false older m)
    (λ m e. elim (cases_Bool (int_eq m i.lit)) [
      | inl same ↦ or_left (int_eq m i.lit) (is_false older m) same
      | inr other ↦
          let wrong : false_upto i.level older m ≡ true = rw other at e in
          or_right (int_eq m i.lit) (is_false older m)
          (any_weaker (λ j. int_eq m (neg_ℤ j.lit) && nat_le j.level i.level) (λ j. int_eq m (neg_ℤ j.lit)) (λ j b. (and_parts (int_eq m (neg_ℤ j.lit)) (nat_le j.level i.level) b).0) older wrong)
    ])
    c h.rest

-- where one item more is looked at, the variables before it
pub some_more : (older : List Item) (i : Item) (v : ℕ) → item_of older (nat_abs i.lit) ≡ None → is_some (item_of older v) ≡ true → is_some (item_of (older ++ i ∷ []) v) ≡ true
some_more older i v free h =
    elim (cases_Bool (nat_eq v (nat_abs i.lit))) [
      | inl same ↦ rw (item_of-push older i v free, same) refl
      | inr other ↦ rw (item_of-push older i v free, other) h
    ]

pub some_fewer : (older : List Item) (i : Item) (v : ℕ) → item_of older (nat_abs i.lit) ≡ None → nat_eq v (nat_abs i.lit) ≡ false → is_some (item_of (older ++ i ∷ []) v) ≡ true → is_some (item_of older v) ≡ true
some_fewer older i v free other h =
    let here : item_of (older ++ i ∷ []) v ≡ item_of older v = item_of-push older i v free ∙ rw other refl in
    subst (λ o. is_some o ≡ true) here h

pub some_here : (older : List Item) (i : Item) → item_of older (nat_abs i.lit) ≡ None → is_some (item_of (older ++ i ∷ []) (nat_abs i.lit)) ≡ true
some_here older i free = rw (item_of-push older i (nat_abs i.lit) free, eq-eqb (nat_abs i.lit) (nat_abs i.lit) refl) refl
