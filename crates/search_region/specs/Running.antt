-- What a search keeps from move to move.
use Rattle.std.specs.Prelude.{ℕ, Bool, ℤ, List}
use Rattle.search_region.specs.Trail.{Item}
use Rattle.search_region.specs.Steady.{Steady}
use Rattle.search_region.specs.Region.{Region}

-- What each move of a search keeps.
pub record Running (f : List (List ℤ)) (shown : ℕ → Bool) (base : ℕ) (p : List ℤ)
    (trail : List Item) (found : List (List ℤ)) : Type 0 where
  pub steady : Steady f shown trail
  pub region : Region f shown base p trail found
