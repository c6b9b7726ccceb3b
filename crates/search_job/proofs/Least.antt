-- The least level of a model that is not below the base.
use Rattle.std.proofs.Common.{◌≡◌, ℕ, ◌<◌, ◌≤◌, Bool, true, not, ◌&&◌, ◌||◌, nat_le, max, ℤ, List, sym, ◌∙◌, inl, inr, arith}
use Rattle.std.specs.List.{list_any, list_all}
use Rattle.std.specs.Ordering.{int_eq}
use Rattle.std.proofs.lemmas.Bool.{and_parts, and_from, or_cases, or_left, or_right, both_ways, cases_lt, false_from_ne_true, le-leb, leb-true, lt-leb}
use Rattle.search_region.specs.Trail.{Item, is_flipped, seen}
use Rattle.search_region.specs.Model.{is_kept, is_met, keeps_flips, reaches}
use Rattle.sat_terms.specs.Cubes.{has_pair}
use Rattle.search_region.proofs.Least.{least_reaches}
use Rattle.search_region.proofs.Literals.{all_weaker, any_weaker}

module _ (shown : ℕ → Bool) (trail : List Item) (f : List (List ℤ)) where
  -- the cube of level b is enough
  abbrev pub is_enough : ℕ → Bool
  is_enough b = keeps_flips shown b trail && list_all (is_met shown b trail) f

  low_more : (b c : ℕ) (i : Item) → b ≤ c → nat_le i.level b ≡ true → nat_le i.level c ≡ true
  low_more b c i h e = le-leb i.level c (let low = leb-true i.level b e in omega arith)

  -- then so is that of a higher one
  enough_more : (b c : ℕ) → b ≤ c → is_enough b ≡ true → is_enough c ≡ true
  enough_more b c h e =
      let (flips, met) = and_parts (keeps_flips shown b trail) (list_all (is_met shown b trail) f) e in
      and_from (keeps_flips shown c trail) (list_all (is_met shown c trail) f)
      (all_weaker (λ i. not (is_flipped i.kind && seen shown i) || nat_le i.level b) (λ i. not (is_flipped i.kind && seen shown i) || nat_le i.level c)
      (λ i k. elim (or_cases (not (is_flipped i.kind && seen shown i)) (nat_le i.level b) k) [
        | inl n ↦ or_left (not (is_flipped i.kind && seen shown i)) (nat_le i.level c) n
        | inr low ↦ or_right (not (is_flipped i.kind && seen shown i)) (nat_le i.level c) (low_more b c i h low)
      ]) trail flips)
      (all_weaker (is_met shown b trail) (is_met shown c trail)
      (λ d k. elim (or_cases (has_pair d) (list_any (is_kept shown b trail) d) k) [
        | inl pair ↦ or_left (has_pair d) (list_any (is_kept shown c trail) d) pair
        | inr some ↦ or_right (has_pair d) (list_any (is_kept shown c trail) d) (any_weaker (is_kept shown b trail) (is_kept shown c trail) kept_more d some)
      ]) f met)
    where
      kept_more : (l : ℤ) → is_kept shown b trail l ≡ true → is_kept shown c trail l ≡ true
      kept_more l k = any_weaker (λ i. int_eq l i.lit && (not (seen shown i) || nat_le i.level b)) (λ i. int_eq l i.lit && (not (seen shown i) || nat_le i.level c))
          (λ i q. let (same, kept) = and_parts (int_eq l i.lit) (not (seen shown i) || nat_le i.level b) q in
          and_from (int_eq l i.lit) (not (seen shown i) || nat_le i.level c) same (elim (or_cases (not (seen shown i)) (nat_le i.level b) kept) [
            | inl hides ↦ or_left (not (seen shown i)) (nat_le i.level c) hides
            | inr low ↦ or_right (not (seen shown i)) (nat_le i.level c) (low_more b c i h low)
          ]))
          trail k

  -- a least level above the base is that of some shown item
  pub least_reaches_above : (base level : ℕ) → base < level → ((b : ℕ) → (nat_le base b && is_enough b) ≡ nat_le level b) → reaches shown level trail ≡ true
  least_reaches_above base level above least = least_reaches shown trail f level (omega arith) (λ b. elim (cases_lt b level) [
    | inr high ↦ (and_parts (nat_le base b) (is_enough b) (least b ∙ le-leb level b high)).1 ∙ sym (le-leb level b high)
    | inl low ↦ false_from_ne_true (is_enough b) (λ e. both_ways (nat_le level (max base b)) (lt-leb level (max base b) (omega arith)) (sym (least (max base b))
        ∙ and_from (nat_le base (max base b)) (is_enough (max base b)) (le-leb base (max base b) (omega arith)) (enough_more b (max base b) (omega arith) e)))
        ∙ sym (lt-leb level b low)
  ])
