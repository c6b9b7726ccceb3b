-- What is left to do of a search, as a number that each move lowers.
use Rattle.std.specs.Prelude.{ℕ, zero, suc, ◌+◌, ◌^◌, cond, List, [], ◌∷◌}
use Rattle.search_region.specs.Trail.{Item, is_assigned, is_decided}

-- How many of the variables 1 to n are unassigned.
abbrev pub free_count : ℕ → List Item → ℕ
free_count zero trail = 0
free_count (suc n) trail = free_count n trail + cond (is_assigned (suc n) trail) 0 1

-- What is left on the other sides of the decisions, counted in threes.
abbrev pub untried_work : ℕ → List Item → ℕ
untried_work n [] = 0
untried_work n (i ∷ older) =
    untried_work n older + cond (is_decided i.kind) (3 ^ free_count n (i ∷ older)) 0

-- That, and what is left below the present trail.
abbrev pub work : ℕ → List Item → ℕ
work n trail = untried_work n trail + 3 ^ free_count n trail
