-- Counts of cubes that hold an assignment, and lists of cubes that are apart.
use Rattle.std.proofs.Common.{◌≡◌, ℕ, zero, suc, ◌<◌, ◌≤◌, Bool, true, ℤ, List, [], ◌∷◌, length, get_or, refl, sym, ◌∙◌, inl, inr, arith, All, AllPairs, IsPermutation}
use Rattle.std.specs.List.{list_any}
use Rattle.std.proofs.lemmas.Bool.{or_cases, or_left, or_right, cases_Bool}
use Rattle.std.proofs.lemmas.List.Recursion.{is_sum_by}
use Rattle.std.proofs.lemmas.List.Sorted.{sum_by-IsPermutation}
use Rattle.std.proofs.lemmas.List.Elements.{All-head, All-tail}
use Rattle.sat_terms.specs.Truth.{holds}
use Rattle.sat_terms.specs.Cubes.{rises_above, apart}
use Rattle.sat_terms.proofs.Disjoint.{apart-disjoint, apart-from_disjoint}
use Rattle.search_region.specs.Cubes.{hit, hits}

-- an assignment in some cube is counted
pub any_hit : (t : ℕ → Bool) (cubes : List (List ℤ)) → list_any (holds t) cubes ≡ true → 0 < hits t cubes
any_hit t [] h = cc
any_hit t (c ∷ cubes) h =
    elim (or_cases (holds t c) (list_any (holds t) cubes) h) [
      | inl here ↦ let one : hit t c ≡ 1 = rw here refl in omega arith
      | inr rest ↦ let some = any_hit t cubes rest in omega arith
    ]

pub hit_any : (t : ℕ → Bool) (cubes : List (List ℤ)) → 0 < hits t cubes → list_any (holds t) cubes ≡ true
hit_any t [] h = absurd (omega arith)
hit_any t (c ∷ cubes) h =
    elim (cases_Bool (holds t c)) [
      | inl here ↦ or_left (holds t c) (list_any (holds t) cubes) here
      | inr out ↦ or_right (holds t c) (list_any (holds t) cubes) (hit_any t cubes (let none : hit t c ≡ 0 = rw out refl in omega arith))
    ]

-- at one place once, at two places twice
pub one_hit : (t : ℕ → Bool) (cubes : List (List ℤ)) (i : ℕ) (d : List ℤ) → i < length cubes → holds t (get_or cubes i d) ≡ true → 0 < hits t cubes
one_hit t [] i d inside h = absurd (omega arith)
one_hit t (c ∷ cubes) zero d inside h = let one : hit t c ≡ 1 = rw h refl in omega arith
one_hit t (c ∷ cubes) (suc i) d inside h = let some = one_hit t cubes i d (omega arith) h in omega arith

pub two_hits : (t : ℕ → Bool) (cubes : List (List ℤ)) (i j : ℕ) (d : List ℤ) → i < j → j < length cubes → holds t (get_or cubes i d) ≡ true → holds t (get_or cubes j d) ≡ true → 2 ≤ hits t cubes
two_hits t [] i j d below inside h g = absurd (omega arith)
two_hits t (c ∷ cubes) zero zero d below inside h g = absurd (omega arith)
two_hits t (c ∷ cubes) zero (suc j) d below inside h g = let one : hit t c ≡ 1 = rw h refl in let some = one_hit t cubes j d (omega arith) g in omega arith
two_hits t (c ∷ cubes) (suc i) zero d below inside h g = absurd (omega arith)
two_hits t (c ∷ cubes) (suc i) (suc j) d below inside h g = let both = two_hits t cubes i j d (omega arith) (omega arith) h g in omega arith

-- the order of the cubes doesn't matter
pub hits_permuted : (t : ℕ → Bool) (cubes others : List (List ℤ)) → IsPermutation cubes others → hits t others ≡ hits t cubes
hits_permuted t cubes others perm =
    is_sum_by (hits t) (hit t) refl (λ x xs. refl) others ∙ sum_by-IsPermutation (hit t) cubes others perm ∙ sym (is_sum_by (hits t) (hit t) refl (λ x xs. refl) cubes)

-- cubes that hold no assignment twice are apart
pub apart_from_counts : (cubes : List (List ℤ)) → All (λ c. rises_above 0 c ≡ true) cubes → ((t : ℕ → Bool) → hits t cubes ≤ 1) → AllPairs (λ c d. apart c d ≡ true) cubes
apart_from_counts cubes rising few i j d below inside =
    apart-from_disjoint (get_or cubes i d) (get_or cubes j d) (rising i d (omega arith)) (rising j d inside)
    (λ t in_first in_second. (let both = two_hits t cubes i j d below inside in_first in_second in let most = few t in omega arith))

-- and the other way round
pub counts_from_apart : (t : ℕ → Bool) (cubes : List (List ℤ)) → All (λ c. rises_above 0 c ≡ true) cubes → AllPairs (λ c d. apart c d ≡ true) cubes → hits t cubes ≤ 1
counts_from_apart t [] rising pairs = omega arith
counts_from_apart t (c ∷ cubes) rising pairs =
    let rest = counts_from_apart t cubes (All-tail (λ d. rises_above 0 d ≡ true) c cubes rising) (λ i j d below inside. pairs (suc i) (suc j) d (omega arith) (omega arith)) in
    elim (cases_Bool (holds t c)) [
      | inr out ↦ let none : hit t c ≡ 0 = rw out refl in omega arith
      | inl here ↦
          let one : hit t c ≡ 1 = rw here refl in
          let none : hits t cubes ≡ 0 = none_after here cubes (λ i d inside. pairs 0 (suc i) d (omega arith) (omega arith)) in
          omega arith
    ]
  where
    none_after : holds t c ≡ true → (others : List (List ℤ)) → All (λ d. apart c d ≡ true) others → hits t others ≡ 0
    none_after here [] away = refl
    none_after here (d ∷ others) away =
        elim (cases_Bool (holds t d)) [
          | inl both ↦ absurd (apart-disjoint t 0 c d (All-head (λ e. rises_above 0 e ≡ true) c cubes rising) (All-head (λ e. apart c e ≡ true) d others away) here both)
          | inr out ↦ let none : hit t d ≡ 0 = rw out refl in let after = none_after here others (All-tail (λ e. apart c e ≡ true) d others away) in omega arith
        ]
