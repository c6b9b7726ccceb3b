-- A clause with a literal and its negation is at rest.
use Rattle.std.proofs.Common.{◌≡◌, ◌<◌, Bool, true, false, ℤ, neg_ℤ, nat_abs, List, [], ◌∷◌, Option, Some, None, refl, sym, ap, subst, ◌∙◌, ◌⊎◌, inl, inr}
use Rattle.std.specs.List.{All, list_any, list_all}
use Rattle.std.specs.Ordering.{int_eq}
use Rattle.std.proofs.lemmas.Bool.{and_parts, or_cases, or_left, or_right, both_ways, false_from_ne_true}
use Rattle.sat_terms.specs.Cubes.{has_literal}
use Rattle.sat_terms.specs.Literals.{IsLiteral}
use Rattle.sat_terms.proofs.CubeLemmas.{All-literal, nat_abs-neg, int_eq-true, int_eq-same, neg-not_same}
use Rattle.sat_terms.specs.Cubes.{has_pair}
use Rattle.search_region.proofs.Literals.{same_variable}
use Rattle.chrono_trail.specs.declared.item.Item.{Item}
use Rattle.chrono_trail.specs.Items.{item_of, are_distinct}
use Rattle.chrono_trail.specs.Clauses.{is_false, is_or_false, IsUnit}
use Rattle.chrono_trail.specs.Clauses.{IsAtRest}
use Rattle.chrono_trail.proofs.Clauses.{item_variable, free_not_false, true_not_false}

-- what holds of all literals holds of one of them
holds_of : (p : ℤ → Bool) (c : List ℤ) (l : ℤ) → has_literal c l ≡ true → list_all p c ≡ true →
    p l ≡ true
holds_of p [] l h all = absurd (both_ways false refl h)
holds_of p (m ∷ c) l h all =
    let (now, rest) = and_parts (p m) (list_all p c) all in
    elim (or_cases (int_eq l m) (has_literal c l) h) [
      | inl same ↦ subst (λ x. p x ≡ true) (sym (int_eq-true l m same)) now
      | inr there ↦ holds_of p c l there rest
    ]

-- a literal of c whose negation is one of the whole clause
negated_in : (whole c : List ℤ) → list_any (λ l. has_literal whole (neg_ℤ l)) c ≡ true →
    (l : ℤ) × ((has_literal c l ≡ true) × (has_literal whole (neg_ℤ l) ≡ true))
negated_in whole [] h = absurd (both_ways false refl h)
negated_in whole (m ∷ c) h =
    elim (or_cases (has_literal whole (neg_ℤ m)) (list_any (λ l. has_literal whole (neg_ℤ l)) c) h) [
      | inl now ↦ (m, (or_left (int_eq m m) (has_literal c m) (int_eq-same m), now))
      | inr rest ↦
          let (l, both) = negated_in whole c rest in
          (l, (or_right (int_eq l m) (has_literal c l) both.0, both.1))
    ]

-- a literal and its negation are not both false
not_both_false : (items : List Item) (l : ℤ) → are_distinct items ≡ true → 0 < nat_abs l →
    is_false items l ≡ true → is_false items (neg_ℤ l) ≡ true → ⊥
not_both_false items l apart named one other = go (item_of items (nat_abs l)) refl
  where
    negated : nat_abs (neg_ℤ l) ≡ nat_abs l
    negated = nat_abs-neg l

    go : (o : Option Item) → item_of items (nat_abs l) ≡ o → ⊥
    go None e = both_ways (is_false items l) (free_not_false items l e) one
    go (Some i) e =
        elim (same_variable i.lit l (item_variable items (nat_abs l) i e)) [
          | inl same ↦
              both_ways (is_false items l) (true_not_false items l i apart named e same) one
          | inr opposite ↦
              let some : 0 < nat_abs (neg_ℤ l) = subst (λ n. 0 < n) (sym negated) named in
              let here : item_of items (nat_abs (neg_ℤ l)) ≡ Some i = ap (item_of items) negated ∙ e in
              both_ways (is_false items (neg_ℤ l)) (true_not_false items (neg_ℤ l) i apart some here opposite) other
        ]

pub pair_at_rest : (items : List Item) (c : List ℤ) → are_distinct items ≡ true →
    All IsLiteral c → has_pair c ≡ true → IsAtRest items c
pair_at_rest items c apart literals h = record {
  not_false = false_from_ne_true (list_all (is_false items) c) not_false;
  not_unit = not_unit;
}
  where
    pair : (l : ℤ) × ((has_literal c l ≡ true) × (has_literal c (neg_ℤ l) ≡ true))
    pair = negated_in c c h

    l : ℤ
    l = pair.0

    on : has_literal c l ≡ true
    on = pair.1.0

    off : has_literal c (neg_ℤ l) ≡ true
    off = pair.1.1

    named : 0 < nat_abs l
    named = (All-literal IsLiteral c l literals on).0

    not_false : list_all (is_false items) c ≡ true → ⊥
    not_false all =
        let one = holds_of (is_false items) c l on all in
        not_both_false items l apart named one (holds_of (is_false items) c (neg_ℤ l) off all)

    told : (m : ℤ) → IsUnit items m c → (x : ℤ) → has_literal c x ≡ true →
        (x ≡ m) ⊎ (is_false items x ≡ true)
    told m unit x there =
        let or_false = holds_of (is_or_false items m) c x there unit.rest in
        elim (or_cases (int_eq x m) (is_false items x) or_false) [
          | inl same ↦ inl (int_eq-true x m same)
          | inr wrong ↦ inr wrong
        ]

    unassigned : (m x : ℤ) → IsUnit items m c → nat_abs x ≡ nat_abs m → is_false items x ≡ false
    unassigned m x unit same = free_not_false items x (ap (item_of items) same ∙ unit.free)

    not_unit : (m : ℤ) → IsUnit items m c → ⊥
    not_unit m unit =
        elim (told m unit l on) [
          | inl here ↦ elim (told m unit (neg_ℤ l) off) [
            | inl both ↦ neg-not_same l named (both ∙ sym here)
            | inr wrong ↦
                let free = unassigned m (neg_ℤ l) unit (nat_abs-neg l ∙ ap nat_abs here) in
                both_ways (is_false items (neg_ℤ l)) free wrong
          ]
          | inr wrong ↦ elim (told m unit (neg_ℤ l) off) [
            | inl there ↦
                let free = unassigned m l unit (sym (nat_abs-neg l) ∙ ap nat_abs there) in
                both_ways (is_false items l) free wrong
            | inr both ↦ not_both_false items l apart named wrong both
          ]
        ]
