-- The start of a search.
use Rattle.std.proofs.Common.{ℕ, Bool, ℤ, List, [], refl, arith}
use Rattle.search_region.specs.Running.{Running}

module _ (f : List (List ℤ)) (shown : ℕ → Bool) where
  -- the search of everything begins with nothing on the trail and nothing found
  pub start_runs : Running f shown 0 [] [] []
  start_runs = record {
    steady = tt;
    region = record {
      based = omega arith;
      found_over = refl;
      prefix_over = refl;
      good = λ t h. absurd (omega arith);
      exact = λ t m. refl;
      below = λ t h. refl;
      above = λ t h. refl;
    };
  }
