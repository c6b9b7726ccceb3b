-- Marked items whose literals are false in an assignment.
use Rattle.std.proofs.Common.{◌≡◌, ℕ, ◌<◌, Bool, true, false, not, ◌&&◌, ◌||◌, nat_eq, ℤ, nat_abs, neg_ℤ, List, [], ◌∷◌, None, Some, is_some, refl, sym, ap, subst, ◌∙◌, inl, inr, arith}
use Rattle.std.specs.List.{All, list_all}
use Rattle.std.specs.Ordering.{int_eq}
use Rattle.std.proofs.lemmas.Bool.{cases_Bool, and_parts, and_from, or_cases, or_left, or_right, both_ways, eqb-true, eq-eqb}
use Rattle.std.proofs.lemmas.List.Elements.{All-head, All-tail}
use Rattle.sat_terms.specs.Literals.{IsLiteralOf, lit_true}
use Rattle.sat_terms.specs.Truth.{sat_clause}
use Rattle.sat_terms.proofs.CubeLemmas.{nat_abs-neg, int_eq-true}
use Rattle.sat_terms.proofs.Disjoint.{lit_true-neg}
use Rattle.search_region.proofs.Literals.{any_weaker, none_both}
use Rattle.chrono_trail.specs.declared.item.Item.{Item}
use Rattle.chrono_trail.specs.Items.{item_of}
use Rattle.chrono_trail.specs.Clauses.{is_false}
use Rattle.chrono_trail.proofs.Clauses.{free_not_false}
use Rattle.conflict_analysis.specs.Lemmas.{holds_variables}
use Rattle.conflict_analysis.specs.Marks.{names_beside}
use Rattle.conflict_analysis.specs.Walks.{is_amiss}
use Rattle.conflict_analysis.proofs.Places.{none_from}

pub not_true : (b : Bool) → not b ≡ true → b ≡ false
not_true true h = absurd (both_ways false refl h)
not_true false h = refl

-- a literal that is true in the assignment and false on the trail leaves its item amiss
false_amiss : (t marked : ℕ → Bool) (older : List Item) (m : ℤ) → 0 < nat_abs m → lit_true t m ≡ true → is_false older m ≡ true → marked (nat_abs m) ≡ true → is_amiss t marked older ≡ true
false_amiss t marked older m named on wrong mark =
    any_weaker (λ i. int_eq m (neg_ℤ i.lit)) (λ i. marked (nat_abs i.lit) && not (lit_true t i.lit))
    (λ i same.
    let e : m ≡ neg_ℤ i.lit = int_eq-true m (neg_ℤ i.lit) same in
    let v : nat_abs m ≡ nat_abs i.lit = ap nat_abs e ∙ nat_abs-neg i.lit in
    let above : 0 < nat_abs i.lit = omega arith in
    and_from (marked (nat_abs i.lit)) (not (lit_true t i.lit)) (subst (λ k. marked k ≡ true) v mark)
    (sym (lit_true-neg t i.lit above) ∙ ap (lit_true t) (sym e) ∙ on))
    older wrong

-- a clause that is true in the assignment, whose literals but l are false on the trail and marked,
-- leaves an item amiss
pub clause_amiss : (t marked : ℕ → Bool) (older : List Item) (l : ℤ) (n : ℕ) (c : List ℤ) → All (IsLiteralOf n) c →
    ((m : ℤ) → 0 < nat_abs m → lit_true t m ≡ true → m ≡ l → ⊥) →
    list_all (λ m. int_eq m l || is_false older m) c ≡ true →
    ((v : ℕ) → names_beside l c v ≡ true → marked v ≡ true) →
    sat_clause t c ≡ true → is_amiss t marked older ≡ true
clause_amiss t marked older l n [] named apart wrong marks on = absurd (both_ways false refl on)
clause_amiss t marked older l n (m ∷ c) named apart wrong marks on =
    let (now, rest) = and_parts (int_eq m l || is_false older m) (list_all (λ k. int_eq k l || is_false older k) c) wrong in
    let above = (All-head (IsLiteralOf n) m c named).0 in
    elim (or_cases (lit_true t m) (sat_clause t c) on) [
      | inl here ↦ elim (cases_Bool (int_eq m l)) [
        | inl same ↦ absurd (apart m above here (int_eq-true m l same))
        | inr other ↦
            let off : is_false older m ≡ true = rw other at now in
            let says = and_from (not (int_eq m l)) (nat_eq (nat_abs m) (nat_abs m)) (ap not other) (eq-eqb (nat_abs m) (nat_abs m) refl) in
            false_amiss t marked older m above here off (marks (nat_abs m) (or_left (not (int_eq m l) && nat_eq (nat_abs m) (nat_abs m)) (names_beside l c (nat_abs m)) says))
      ]
      | inr later ↦ clause_amiss t marked older l n c (All-tail (IsLiteralOf n) m c named) apart rest
          (λ v says. marks v (or_right (not (int_eq m l) && nat_eq v (nat_abs m)) (names_beside l c v) says)) later
    ]

-- other marks may change at a variable without an item
pub amiss_kept : (t marked new : ℕ → Bool) (v : ℕ) (older : List Item) → item_of older v ≡ None →
    ((u : ℕ) → nat_eq u v ≡ false → marked u ≡ true → new u ≡ true) →
    is_amiss t marked older ≡ true → is_amiss t new older ≡ true
amiss_kept t marked new v [] free keep h = absurd (both_ways false refl h)
amiss_kept t marked new v (i ∷ later) free keep h =
    elim (cases_Bool (nat_eq v (nat_abs i.lit))) [
      | inl same ↦ let none : Some i ≡ None = rw same at free in cc
      | inr other ↦
          let rest : item_of later v ≡ None = rw other at free in
          elim (or_cases (marked (nat_abs i.lit) && not (lit_true t i.lit)) (is_amiss t marked later) h) [
            | inl here ↦
                let (mark, off) = and_parts (marked (nat_abs i.lit)) (not (lit_true t i.lit)) here in
                or_left (new (nat_abs i.lit) && not (lit_true t i.lit)) (is_amiss t new later)
                (and_from (new (nat_abs i.lit)) (not (lit_true t i.lit)) (keep (nat_abs i.lit) (turned v (nat_abs i.lit) other) mark) off)
            | inr there ↦ or_right (new (nat_abs i.lit) && not (lit_true t i.lit)) (is_amiss t new later) (amiss_kept t marked new v later rest keep there)
          ]
    ]
  where
    turned : (a b : ℕ) → nat_eq a b ≡ false → nat_eq b a ≡ false
    turned a b h = elim (cases_Bool (nat_eq b a)) [
      | inl same ↦ absurd (both_ways (nat_eq a b) h (eq-eqb a b (sym (eqb-true b a same))))
      | inr other ↦ other
    ]

-- nothing marked, nothing amiss
pub none_amiss : (t marked : ℕ → Bool) (items : List Item) → ((v : ℕ) → marked v ≡ false) → is_amiss t marked items ≡ true → ⊥
none_amiss t marked [] none h = both_ways false refl h
none_amiss t marked (i ∷ later) none h =
    elim (or_cases (marked (nat_abs i.lit) && not (lit_true t i.lit)) (is_amiss t marked later) h) [
      | inl here ↦ both_ways (marked (nat_abs i.lit)) (none (nat_abs i.lit)) (and_parts (marked (nat_abs i.lit)) (not (lit_true t i.lit)) here).0
      | inr there ↦ none_amiss t marked later none there
    ]

-- a variable that a clause names beside l has an item
pub named_some : (older : List Item) (l : ℤ) (c : List ℤ) (v : ℕ) → list_all (λ m. int_eq m l || is_false older m) c ≡ true →
    names_beside l c v ≡ true → is_some (item_of older v) ≡ true
named_some older l c v wrong says =
    elim (cases_Bool (is_some (item_of older v))) [
      | inl some ↦ some
      | inr none ↦ absurd (none_both (λ m. not (int_eq m l) && nat_eq v (nat_abs m)) (λ m. int_eq m l || is_false older m)
          (λ m p q.
          let (other, same) = and_parts (not (int_eq m l)) (nat_eq v (nat_abs m)) p in
          let free : item_of older (nat_abs m) ≡ None = ap (item_of older) (sym (eqb-true v (nat_abs m) same)) ∙ none_from (item_of older v) none in
          elim (or_cases (int_eq m l) (is_false older m) q) [
            | inl equal ↦ both_ways (int_eq m l) (not_true (int_eq m l) other) equal
            | inr off ↦ both_ways (is_false older m) (free_not_false older m free) off
          ])
          c says wrong)
    ]

-- it is among the variables of the clause
pub named_held : (s : ℕ → Bool) (l : ℤ) (c : List ℤ) (v : ℕ) → holds_variables s c ≡ true → names_beside l c v ≡ true → s v ≡ true
named_held s l c v held says =
    elim (cases_Bool (s v)) [
      | inl holds ↦ holds
      | inr lacks ↦ absurd (none_both (λ m. not (int_eq m l) && nat_eq v (nat_abs m)) (λ m. s (nat_abs m))
          (λ m p q.
          let (other, same) = and_parts (not (int_eq m l)) (nat_eq v (nat_abs m)) p in
          both_ways (s v) lacks (ap s (eqb-true v (nat_abs m) same) ∙ q))
          c says held)
    ]
