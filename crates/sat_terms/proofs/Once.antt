-- A list of cubes, any two of them apart, holds an assignment in one cube at most.
use Rattle.std.proofs.Common.{◌≡◌, ℕ, ◌<◌, Bool, true, List, [], length, get_or, ◌∙◌, ap, ◌⊎◌, inl, inr, arith}
use Rattle.std.specs.Prelude.{ℤ}
use Rattle.std.specs.List.{All, AllPairs, list_any}
use Rattle.std.proofs.lemmas.Bool.{cases_order}
use Rattle.std.proofs.lemmas.List.{get_or_default}
use Rattle.std.proofs.lemmas.List.Folds.{Any-from_list_any}
use Rattle.sat_terms.specs.Assignments.{assignment_of, lies_in}
use Rattle.sat_terms.specs.Cubes.{IsCube, apart}
use Rattle.sat_terms.specs.Laws.{LiesOnlyAt}
use Rattle.sat_terms.proofs.Disjoint.{apart-disjoint}

one_place : (p : List ℕ) (a : List Bool) (cubes : List (List ℤ)) → All (IsCube p) cubes → AllPairs (λ c d. apart c d ≡ true) cubes →
    (j k : ℕ) → j < k → k < length cubes → lies_in p a (get_or cubes j []) ≡ true → lies_in p a (get_or cubes k []) ≡ true → ⊥
one_place p a cubes over pairs j k less inside in_first in_second =
    let before : j < length cubes = omega arith in
    apart-disjoint (assignment_of p a) 0 (get_or cubes j []) (get_or cubes k []) (over j [] before).rising (pairs j k [] less inside) in_first in_second

same_place : (p : List ℕ) (a : List Bool) (cubes : List (List ℤ)) → All (IsCube p) cubes → AllPairs (λ c d. apart c d ≡ true) cubes →
    (j k : ℕ) → j < length cubes → k < length cubes → lies_in p a (get_or cubes j []) ≡ true → lies_in p a (get_or cubes k []) ≡ true →
    (j ≡ k) ⊎ ((j < k) ⊎ (k < j)) → j ≡ k
same_place p a cubes over pairs j k j_in k_in lies_j lies_k (inl e) = e
same_place p a cubes over pairs j k j_in k_in lies_j lies_k (inr (inl less)) = absurd (one_place p a cubes over pairs j k less k_in lies_j lies_k)
same_place p a cubes over pairs j k j_in k_in lies_j lies_k (inr (inr less)) = absurd (one_place p a cubes over pairs k j less j_in lies_k lies_j)

-- what lies in one of the cubes lies in just one
pub only_place : (p : List ℕ) (a : List Bool) (cubes : List (List ℤ)) → All (IsCube p) cubes → AllPairs (λ c d. apart c d ≡ true) cubes →
    list_any (lies_in p a) cubes ≡ true → (k : ℕ) × LiesOnlyAt p a cubes k
only_place p a cubes over pairs some =
    let found = Any-from_list_any (lies_in p a) cubes some in
    let k = found.0 in
    let inside : k < length cubes = found.2 in
    let lies : lies_in p a (get_or cubes k []) ≡ true = ap (lies_in p a) (get_or_default cubes k [] found.1 inside ∙ found.3) ∙ found.4 in
    (k, record { inside = inside; lies = lies; only = λ j j_in lies_j. same_place p a cubes over pairs j k j_in inside lies_j lies (cases_order j k) })
