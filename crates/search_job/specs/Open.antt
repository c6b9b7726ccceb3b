-- What a job has left open, as cubes over the shown variables p.
use Rattle.std.specs.Prelude.{ℕ, cond, ℤ, List, [], ◌∷◌, ◌++◌}
use Rattle.std.specs.List.{All}
use Rattle.sat_terms.specs.Cubes.{IsCube, is_among}
use Rattle.search_region.specs.Trail.{Item}
use Rattle.search_region.specs.Region.{is_open}
use Rattle.search_job.specs.Same.{front_cube, other_cube}
use Rattle.search_job.specs.Weights.{FitsWeighed}

-- The prefixes still to be tried, the lowest branch first.
abbrev pub untried_cubes : List ℕ → ℕ → List Item → List (List ℤ)
untried_cubes p base [] = []
untried_cubes p base (i ∷ older) =
    cond (is_open (is_among p) base i)
    (untried_cubes p base older ++ other_cube i older p ∷ [])
    (untried_cubes p base older)

-- These, and the one that the search is in.
abbrev pub left_cubes : List ℕ → ℕ → List Item → List (List ℤ)
left_cubes p base trail = untried_cubes p base trail ++ front_cube trail p ∷ []

-- What was found and what is left open are what the prefix q comes to, so that the job can end.
pub record Exposes (f : List (List ℤ)) (p : List ℕ) (n : ℕ) (q : List ℤ)
    (found left : List (List ℤ)) (leaves : ℕ) : Type 0 where
  pub over : All (IsCube p) left
  pub fits : FitsWeighed f (is_among p) n q found left leaves
