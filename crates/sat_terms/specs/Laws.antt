-- The laws of cubes and of right lists.
use Rattle.std.specs.Prelude.{◌≡◌, ◌↔◌, ℕ, ◌<◌, Bool, true, List, [], length, slice_index_or, ℤ, nat_abs, nat_lt}
use Rattle.std.specs.List.{list_any, list_all}
use Rattle.std.specs.Cmp.{IsTotalOrder}
use Rattle.std.specs.declared.cmp.Ordering.TheVariants.{Equal}
use Rattle.sat_terms.specs.Assignments.{lies_in}
use Rattle.sat_terms.specs.Truth.{holds}
use Rattle.sat_terms.specs.Cubes.{IsCube, apart, within}
use Rattle.sat_terms.specs.CubeOrder.{cube_order}
use Rattle.sat_terms.specs.RightList.{IsWanted, IsRightList}

-- Two cubes are apart exactly if no projected assignment lies in both.
abbrev pub ApartIsDisjoint : List ℕ → List ℤ → List ℤ → Type 0
ApartIsDisjoint p c d = IsCube p c → IsCube p d →
    (apart c d ≡ true) ↔ ((a : List Bool) → length a ≡ length p →
    lies_in p a c ≡ true → lies_in p a d ≡ true → ⊥)

-- A cube is within a list of literals exactly if each assignment in the cube is in the list.
abbrev pub WithinIsInside : List ℕ → List ℤ → List ℤ → Type 0
WithinIsInside p c q = IsCube p c → list_all (λ l. nat_lt 0 (nat_abs l)) q ≡ true →
    (within c q ≡ true) ↔ ((t : ℕ → Bool) → holds t c ≡ true → holds t q ≡ true)

-- The order of cubes is a total order, and lists of literals that it calls equal are the same list.
pub record OrdersCubes : Type 0 where
  pub total : IsTotalOrder cube_order
  pub exact : (c d : List ℤ) → cube_order c d ≡ Equal → c ≡ d

-- The projected assignment a lies in the cube at the place k, and in no other cube of the list.
pub record LiesOnlyAt (p : List ℕ) (a : List Bool) (cubes : List (List ℤ)) (k : ℕ) : Type 0 where
  pub inside : k < length cubes
  pub lies : lies_in p a (slice_index_or cubes k []) ≡ true
  pub only : (j : ℕ) → j < length cubes → lies_in p a (slice_index_or cubes j []) ≡ true → j ≡ k

-- A right list holds each wanted assignment in exactly one cube.
abbrev pub HoldsEachOnce : List (List ℤ) → List ℕ → List ℤ → List (List ℤ) → Type 0
HoldsEachOnce f p u cubes = IsRightList f p u cubes → (a : List Bool) → length a ≡ length p →
    IsWanted f p u a → (k : ℕ) × LiesOnlyAt p a cubes k

-- Right lists of one formula under the same given literals hold the same assignments.
abbrev pub HoldOneSet :
    List (List ℤ) → List ℕ → List ℤ → List (List ℤ) → List (List ℤ) → Type 0
HoldOneSet f p u cubes others = IsRightList f p u cubes → IsRightList f p u others →
    (a : List Bool) → length a ≡ length p →
    list_any (lies_in p a) cubes ≡ list_any (lies_in p a) others
