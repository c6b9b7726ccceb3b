-- When the outcome of a job fits the prefix that the job searched.
use Rattle.std.specs.Prelude.{◌≡◌, ℕ, ◌+◌, ◌-◌, ◌<◌, ◌≤◌, ◌^◌, Bool, true, List, ◌++◌, length, ℤ, option_to_list}
use Rattle.std.specs.List.{All, AllPairs, list_any}
use Rattle.sat_terms.specs.Assignments.{IsGood, lies_in}
use Rattle.sat_terms.specs.Cubes.{IsCube, apart, within}
use Rattle.search_job.specs.Weights.{weight, weights}
use Rattle.prefix_jobs.specs.declared.outcome.Outcome.{Outcome}

-- The prefixes that are still to be searched.
abbrev pub open_parts : Outcome → List (List ℤ)
open_parts o = o.rest ++ option_to_list o.kept

-- The outcome fits the prefix q of the formula f and the shown variables p: its cubes and open
-- parts are cubes over p, apart and within q; what lies in a cube is good, and what is good in q
-- lies in a cube or an open part; the open parts weigh little enough for its leaves; and the
-- rest is not too long to be numbered.
pub record FitsPrefix (f : List (List ℤ)) (p : List ℕ) (q : List ℤ) (o : Outcome) : Type 0 where
  pub over : All (IsCube p) (o.cubes ++ open_parts o)
  pub disjoint : AllPairs (λ c d. apart c d ≡ true) (o.cubes ++ open_parts o)
  pub inside : All (λ c. within c q ≡ true) (o.cubes ++ open_parts o)
  pub good : (a : List Bool) → length a ≡ length p → list_any (lies_in p a) o.cubes ≡ true →
      IsGood f p a
  pub cover : (a : List Bool) → length a ≡ length p → lies_in p a q ≡ true → IsGood f p a →
      list_any (lies_in p a) (o.cubes ++ open_parts o) ≡ true
  pub weighs : weights (length p) (open_parts o) + o.leaves ≤ weight (length p) q
  pub few : length o.rest < 2 ^ 32 - 1
