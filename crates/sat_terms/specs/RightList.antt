-- What a listing of a formula has to be.
use Rattle.std.specs.Prelude.{◌≡◌, ◌↔◌, ℕ, Bool, true, List, length, ℤ}
use Rattle.std.specs.List.{All, AllPairs, AllAdjacentBelow, list_any}
use Rattle.std.specs.declared.cmp.Ordering.TheVariants.{Less}
use Rattle.sat_terms.specs.Assignments.{IsGood, lies_in}
use Rattle.sat_terms.specs.Cubes.{IsCube, apart}
use Rattle.sat_terms.specs.CubeOrder.{cube_order}

-- A projected assignment is wanted where it is good and lies in the given literals u.
pub record IsWanted (f : List (List ℤ)) (p : List ℕ) (u : List ℤ) (a : List Bool) : Type 0 where
  pub given : lies_in p a u ≡ true
  pub good : IsGood f p a

-- A list is right for the formula f, the shown variables p and the given literals u where it is a
-- list of cubes over p, strictly rising in the order of cubes, any two of them apart, and a
-- projected assignment lies in one of them exactly if it is wanted.
pub record IsRightList (f : List (List ℤ)) (p : List ℕ) (u : List ℤ)
    (cubes : List (List ℤ)) : Type 0 where
  pub over : All (IsCube p) cubes
  pub rising : AllAdjacentBelow (λ c d. cube_order c d ≡ Less) cubes (length cubes)
  pub disjoint : AllPairs (λ c d. apart c d ≡ true) cubes
  pub exact : (a : List Bool) → length a ≡ length p →
      (list_any (lies_in p a) cubes ≡ true) ↔ IsWanted f p u a
