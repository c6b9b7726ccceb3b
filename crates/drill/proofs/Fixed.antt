-- A literal that each cube of a right list holds is true in every wanted assignment, and no other.
use Rattle.std.proofs.Common.{◌≡◌, ℕ, ◌<◌, Bool, true, false, ◌||◌, nat_lt, nat_abs, List, [], ◌∷◌, filter, map, length, ℤ, refl, sym, subst, ◌∙◌, inl, inr}
use Rattle.std.specs.List.{All, list_all, list_any}
use Rattle.std.proofs.lemmas.Bool.{cases_Bool, and_parts, and_from, or_cases, le-leb, both_ways}
use Rattle.std.proofs.lemmas.List.{length-map}
use Rattle.std.proofs.lemmas.List.Elements.{All-head, All-tail}
use Rattle.sat_terms.specs.Assignments.{assignment_of, lies_in}
use Rattle.sat_terms.specs.Cubes.{IsCube, is_among, has_literal, within}
use Rattle.sat_terms.proofs.CubeLemmas.{int_eq-true}
use Rattle.sat_terms.proofs.Disjoint.{lies_in-map}
use Rattle.sat_terms.proofs.Inside.{within-from_inside, inside-from_within}
use Rattle.std.specs.Ordering.{int_eq}
use Rattle.drill.specs.Summaries.{FixedIsTrueEverywhere}

or_back : (x y : Bool) → y ≡ true → (x || y) ≡ true
or_back true y h = refl
or_back false y h = h

module _ (test : ℤ → Bool) (l : ℤ) where
  filter_has : (c : List ℤ) → has_literal c l ≡ true → test l ≡ true → has_literal (filter test c) l ≡ true
  filter_has [] h passes = absurd (both_ways false refl h)
  filter_has (x ∷ c) h passes = elim (or_cases (int_eq l x) (has_literal c l) h) [
    | inl same ↦
        let here : test x ≡ true = subst (λ y. test y ≡ true) (int_eq-true l x same) passes in
        rw here (rw same refl)
    | inr more ↦
        let rest = filter_has c more passes in
        elim (cases_Bool (test x)) [
          | inl e ↦ rw e (or_back (int_eq l x) (has_literal (filter test c) l) rest)
          | inr e ↦ rw e rest
        ]
  ]

  filter_passes : (c : List ℤ) → has_literal (filter test c) l ≡ true → test l ≡ true
  filter_passes [] h = absurd (both_ways false refl h)
  filter_passes (x ∷ c) h = elim (cases_Bool (test x)) [
    | inl e ↦
        let some : (int_eq l x || has_literal (filter test c) l) ≡ true = rw e at h in
        elim (or_cases (int_eq l x) (has_literal (filter test c) l) some) [
          | inl same ↦ subst (λ y. test y ≡ true) (sym (int_eq-true l x same)) e
          | inr more ↦ filter_passes c more
        ]
    | inr e ↦ filter_passes c (rw e at h)
  ]

module _ (p : List ℕ) (l : ℤ) where
  -- an assignment of a list whose cubes hold the literal
  each_has : (a : List Bool) (cubes : List (List ℤ)) → list_all (λ c. has_literal c l) cubes ≡ true → list_any (lies_in p a) cubes ≡ true → lies_in p a (l ∷ []) ≡ true
  each_has a [] all some = absurd (both_ways false refl some)
  each_has a (c ∷ cubes) all some =
      let (here, rest) = and_parts (has_literal c l) (list_all (λ d. has_literal d l) cubes) all in
      elim (or_cases (lies_in p a c) (list_any (lies_in p a) cubes) some) [
        | inl lies ↦ inside-from_within c (l ∷ []) (rw here refl) (assignment_of p a) lies
        | inr more ↦ each_has a cubes rest more
      ]

  module _ (some_literal : 0 < nat_abs l) (among : is_among p (nat_abs l) ≡ true) where
    one_has : (c : List ℤ) → IsCube p c → ((a : List Bool) → length a ≡ length p → lies_in p a c ≡ true → lies_in p a (l ∷ []) ≡ true) → has_literal c l ≡ true
    one_has c cube inner =
        let named : nat_lt 0 (nat_abs l) ≡ true = le-leb 1 (nat_abs l) some_literal in
        let told : within c (l ∷ []) ≡ true =
        within-from_inside c (l ∷ []) cube.rising (rw named refl)
        (λ t held. sym (lies_in-map t p (l ∷ []) (rw among refl)) ∙ inner (map t p) (length-map p t) (lies_in-map t p c cube.over ∙ held)) in
        (and_parts (has_literal c l) true told).0

    all_have : (cubes : List (List ℤ)) → All (IsCube p) cubes → ((a : List Bool) → length a ≡ length p → list_any (lies_in p a) cubes ≡ true → lies_in p a (l ∷ []) ≡ true) →
        list_all (λ c. has_literal c l) cubes ≡ true
    all_have [] over inner = refl
    all_have (c ∷ cubes) over inner =
        and_from (has_literal c l) (list_all (λ d. has_literal d l) cubes)
        (one_has c (All-head (IsCube p) c cubes over) (λ a long lies. inner a long (rw lies refl)))
        (all_have cubes (All-tail (IsCube p) c cubes over) (λ a long some. inner a long (or_back (lies_in p a c) (list_any (lies_in p a) cubes) some)))

pub fixed_is_true_everywhere : FixedIsTrueEverywhere
fixed_is_true_everywhere f p u [] l right some_cube some_literal among = absurd (some_cube refl)
fixed_is_true_everywhere f p u (c ∷ cubes) l right some_cube some_literal among =
    let test : ℤ → Bool = λ x. list_all (λ d. has_literal d x) (c ∷ cubes) in (
      (λ fixed a long wanted. each_has p l a (c ∷ cubes) (filter_passes test l c fixed) ((right.exact a long).1 wanted)),
      (λ inner.
          let all : list_all (λ d. has_literal d l) (c ∷ cubes) ≡ true = all_have p l some_literal among (c ∷ cubes) right.over (λ a long some. inner a long ((right.exact a long).0 some)) in
          filter_has test l c ((and_parts (has_literal c l) (list_all (λ d. has_literal d l) cubes) all).0) all),
    )
