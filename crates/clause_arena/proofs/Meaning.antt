-- Clauses with the same literals mean the same.
use Rattle.std.proofs.Common.{◌≡◌, ℕ, zero, suc, Bool, true, false, ◌&&◌, ◌||◌, List, [], ◌∷◌, map, get_or, ℤ, neg_ℤ, refl, sym, ap₂, subst, ◌∙◌, inl, inr}
use Rattle.std.specs.List.{list_any}
use Rattle.std.specs.Ordering.{int_eq}
use Rattle.std.proofs.lemmas.Bool.{both_ways, or_cases, or_left, or_right, cases_Bool, false_from_ne_true}
use Rattle.std.proofs.lemmas.List.{length-map}
use Rattle.sat_terms.specs.Cubes.{has_literal}
use Rattle.sat_terms.specs.Literals.{lit_true}
use Rattle.sat_terms.proofs.CubeLemmas.{int_eq-same, int_eq-true}
use Rattle.clause_arena.specs.Once.{once, OnceKeepsTruth, OnceKeepsPairs, OnceKeepsPlaces}
use Rattle.clause_arena.proofs.Literals.{has_literal-once}

-- a literal that passes
any_of : (p : ℤ → Bool) (d : List ℤ) (l : ℤ) → has_literal d l ≡ true → p l ≡ true → list_any p d ≡ true
any_of p [] l there h = absurd (both_ways false refl there)
any_of p (m ∷ d) l there h =
    elim (or_cases (int_eq l m) (has_literal d l) there) [
      | inl here ↦ or_left (p m) (list_any p d) (subst (λ x. p x ≡ true) (int_eq-true l m here) h)
      | inr later ↦ or_right (p m) (list_any p d) (any_of p d l later h)
    ]

any_among : (p : ℤ → Bool) (c d : List ℤ) → ((l : ℤ) → has_literal c l ≡ true → has_literal d l ≡ true) → list_any p c ≡ true → list_any p d ≡ true
any_among p [] d among h = absurd (both_ways false refl h)
any_among p (l ∷ c) d among h =
    elim (or_cases (p l) (list_any p c) h) [
      | inl here ↦ any_of p d l (among l (or_left (int_eq l l) (has_literal c l) (int_eq-same l))) here
      | inr later ↦ any_among p c d (λ m there. among m (or_right (int_eq m l) (has_literal c m) there)) later
    ]

any_same : (p : ℤ → Bool) (c d : List ℤ) → ((l : ℤ) → has_literal c l ≡ has_literal d l) → list_any p c ≡ list_any p d
any_same p c d same =
    elim (cases_Bool (list_any p d)) [
      | inl some ↦ any_among p d c (λ l there. same l ∙ there) some ∙ sym some
      | inr none ↦ false_from_ne_true (list_any p c) (λ some. both_ways (list_any p d) none (any_among p c d (λ l there. sym (same l) ∙ there) some)) ∙ sym none
    ]

any_alike : (p q : ℤ → Bool) (c : List ℤ) → ((l : ℤ) → p l ≡ q l) → list_any p c ≡ list_any q c
any_alike p q [] same = refl
any_alike p q (l ∷ c) same = ap₂ (λ a b. a || b) (same l) (any_alike p q c same)

pub once_keeps_truth : OnceKeepsTruth
once_keeps_truth [] t = refl
once_keeps_truth (c ∷ f) t = ap₂ (λ a b. a && b) (any_same (lit_true t) (once c) c (has_literal-once c)) (once_keeps_truth f t)

pub once_keeps_pairs : OnceKeepsPairs
once_keeps_pairs c =
    any_alike (λ l. has_literal (once c) (neg_ℤ l)) (λ l. has_literal c (neg_ℤ l)) (once c) (λ l. has_literal-once c (neg_ℤ l))
    ∙ any_same (λ l. has_literal c (neg_ℤ l)) (once c) c (has_literal-once c)

place : (f : List (List ℤ)) (id : ℕ) → get_or (map once f) id [] ≡ once (get_or f id [])
place [] id = refl
place (c ∷ f) zero = refl
place (c ∷ f) (suc id) = place f id

pub once_keeps_places : (f : List (List ℤ)) → OnceKeepsPlaces f
once_keeps_places f = record { count = length-map f once; place = place f }
