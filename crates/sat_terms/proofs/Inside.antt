-- A cube is within another just where each assignment of it is in the other.
use Rattle.std.proofs.Common.{◌≡◌, ℕ, Bool, true, false, List, [], ◌∷◌, refl, sym, ◌∙◌, ap, inl, inr}
use Rattle.std.specs.Prelude.{ℤ, neg_ℤ, nat_abs, nat_lt}
use Rattle.std.specs.List.{list_all}
use Rattle.std.specs.Ordering.{int_eq}
use Rattle.std.proofs.lemmas.Bool.{and_parts, and_from, or_cases, or_left, or_right, both_ways, not_from_true, ltb-true}
use Rattle.sat_terms.specs.Literals.{lit_true}
use Rattle.sat_terms.specs.Truth.{holds}
use Rattle.sat_terms.specs.Cubes.{apart, has_literal, rises_above, within}
use Rattle.sat_terms.proofs.CubeLemmas.{int_eq-true, int_eq-same, nat_abs-neg, neg-neg}
use Rattle.sat_terms.proofs.Disjoint.{apart-from_disjoint, holds-has, lit_true-neg}

-- a cube that is apart from the one literal -l has l
has_from_apart : (c : List ℤ) (l : ℤ) → apart c (neg_ℤ l ∷ []) ≡ true → has_literal c l ≡ true
has_from_apart [] l h = absurd (both_ways false refl h)
has_from_apart (m ∷ c) l h =
    elim (or_cases (has_literal (neg_ℤ l ∷ []) (neg_ℤ m)) (apart c (neg_ℤ l ∷ [])) h) [
      | inl here ↦ or_left (int_eq l m) (has_literal c l) (elim (or_cases (int_eq (neg_ℤ m) (neg_ℤ l)) false here) [
        | inl same ↦ rw (sym (sym (neg-neg m) ∙ ap neg_ℤ (int_eq-true (neg_ℤ m) (neg_ℤ l) same) ∙ neg-neg l)) (int_eq-same m)
        | inr none ↦ absurd (both_ways false refl none)
      ])
      | inr rest ↦ or_right (int_eq l m) (has_literal c l) (has_from_apart c l rest)
    ]

-- one literal that is true in each assignment of a cube is one of the cube
has_from_inside : (c : List ℤ) (l : ℤ) → rises_above 0 c ≡ true → nat_lt 0 (nat_abs l) ≡ true → ((t : ℕ → Bool) → holds t c ≡ true → lit_true t l ≡ true) → has_literal c l ≡ true
has_from_inside c l r named inside =
    has_from_apart c l (apart-from_disjoint c (neg_ℤ l ∷ []) r (and_from (nat_lt 0 (nat_abs (neg_ℤ l))) true (rw (nat_abs-neg l) named) refl)
    (λ t held other. both_ways (lit_true t (neg_ℤ l)) (lit_true-neg t l (ltb-true 0 (nat_abs l) named) ∙ not_from_true (lit_true t l) (inside t held)) (and_parts (lit_true t (neg_ℤ l)) true other).0))

-- where each assignment of the cube c is in q, c is within q
pub within-from_inside : (c q : List ℤ) → rises_above 0 c ≡ true → list_all (λ l. nat_lt 0 (nat_abs l)) q ≡ true → ((t : ℕ → Bool) → holds t c ≡ true → holds t q ≡ true) → within c q ≡ true
within-from_inside c [] r named inside = refl
within-from_inside c (l ∷ q) r named inside =
    let (here, rest) = and_parts (nat_lt 0 (nat_abs l)) (list_all (λ m. nat_lt 0 (nat_abs m)) q) named in
    and_from (has_literal c l) (within c q)
    (has_from_inside c l r here (λ t held. (and_parts (lit_true t l) (holds t q) (inside t held)).0))
    (within-from_inside c q r rest (λ t held. (and_parts (lit_true t l) (holds t q) (inside t held)).1))

-- and the other way round
pub inside-from_within : (c q : List ℤ) → within c q ≡ true → (t : ℕ → Bool) → holds t c ≡ true → holds t q ≡ true
inside-from_within c [] h t held = refl
inside-from_within c (l ∷ q) h t held =
    let (here, rest) = and_parts (has_literal c l) (within c q) h in
    and_from (lit_true t l) (holds t q) (holds-has t c l held here) (inside-from_within c q rest t held)
