-- The invariant of a job.
use Rattle.std.specs.Prelude.{◌≡◌, ℕ, Bool, true, List, ℤ}
use Rattle.search_region.specs.Trail.{Item}
use Rattle.search_region.specs.Region.{front}
use Rattle.search_region.specs.Running.{Running}
use Rattle.search_job.specs.Stuck.{AllStuck}
use Rattle.search_job.specs.Weights.{weight, weighs}

-- A search of the prefix q, with n shown variables: it runs, each found cube was left behind at one
-- item, and the leaves are paid for.
pub record Working (f : List (List ℤ)) (shown : ℕ → Bool) (n base : ℕ) (count : ℕ → ℕ)
    (q : List ℤ) (trail : List Item) (found : List (List ℤ)) (leaves : ℕ) : Type 0 where
  pub running : Running f shown base q trail found
  pub stuck : AllStuck shown trail found
  pub weights : weighs shown n base count q (weight n (front shown trail)) leaves trail ≡ true
