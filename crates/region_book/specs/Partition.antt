-- What the cubes published and the prefixes pending of a book have to be.
use Rattle.std.specs.Prelude.{◌≡◌, ℕ, Bool, true, List, ◌++◌, length, ℤ}
use Rattle.std.specs.List.{All, AllPairs, list_any}
use Rattle.sat_terms.specs.Assignments.{lies_in}
use Rattle.sat_terms.specs.Cubes.{IsCube, apart, within}
use Rattle.sat_terms.specs.RightList.{IsWanted}

-- They are cubes over the shown variables p, any two of them apart. What lies in a published cube
-- is wanted, what is wanted lies in one of them, and each prefix is within the given literals u.
pub record IsPartition (f : List (List ℤ)) (p : List ℕ) (u : List ℤ)
    (published pending : List (List ℤ)) : Type 0 where
  pub over : All (IsCube p) (published ++ pending)
  pub disjoint : AllPairs (λ c d. apart c d ≡ true) (published ++ pending)
  pub sound : (a : List Bool) → length a ≡ length p → list_any (lies_in p a) published ≡ true →
      IsWanted f p u a
  pub cover : (a : List Bool) → length a ≡ length p → IsWanted f p u a →
      list_any (lies_in p a) (published ++ pending) ≡ true
  pub inside : All (λ q. within q u ≡ true) pending
