-- The laws of outcomes.
use Rattle.std.specs.Prelude.{◌≡◌, ℕ, ◌-◌, ◌<◌, ◌≤◌, ◌^◌, ◌⊎◌, true, false, not, List, [], ◌∷◌, ◌++◌, filter, length, ℤ, Some, None}
use Rattle.std.specs.List.{All, AllPairs}
use Rattle.std.specs.List.Sorted.{IsStrictlyIncreasing, IsSorted, IsPermutation}
use Rattle.sat_terms.specs.Cubes.{IsCube, is_among, apart, within}
use Rattle.sat_terms.specs.CubeOrder.{cube_order}
use Rattle.sat_terms.specs.RightList.{IsRightList}
use Rattle.search_region.specs.Trail.{Item}
use Rattle.search_job.specs.Give.{GivesCubes}
use Rattle.search_job.specs.Open.{Exposes}
use Rattle.search_job.specs.Weights.{weights, FitsWeighed}
use Rattle.prefix_jobs.specs.declared.number.Number.{Number}
use Rattle.prefix_jobs.specs.declared.outcome.Outcome.{Outcome}
use Rattle.prefix_jobs.specs.Numbers.{is_before}
use Rattle.prefix_jobs.specs.Outcomes.{open_parts, FitsPrefix}

-- No number stands before itself, the order goes on from one to the next, and of two different
-- numbers one stands before the other.
pub record IsNumberOrder (l m n : Number) : Type 0 where
  pub never_itself : is_before n n ≡ false
  pub goes_on : is_before l m ≡ true → is_before m n ≡ true → is_before l n ≡ true
  pub total : (m ≡ n) ⊎ (is_before m n ≡ true) ⊎ (is_before n m ≡ true)

abbrev pub NumbersAreOrdered : Type 0
NumbersAreOrdered = (l m n : Number) → IsNumberOrder l m n

-- Where what was found and left open is over the shown variables, and fits the prefix by the counts
-- of each assignment, the outcome with it fits the prefix.
abbrev pub FitsFromCounts : Type 0
FitsFromCounts =
    (f : List (List ℤ)) (p : List ℕ) (q : List ℤ) (o : Outcome) →
    IsStrictlyIncreasing p → IsCube p q → All (IsCube p) (o.cubes ++ open_parts o) →
    FitsWeighed f (is_among p) (length p) q o.cubes (open_parts o) o.leaves →
    length o.rest < 2 ^ 32 - 1 → FitsPrefix f p q o

-- What a job gives away, with the prefix that it keeps, is an outcome that fits its prefix.
abbrev pub GiveFitsPrefix : Type 0
GiveFitsPrefix =
    (f : List (List ℤ)) (p : List ℕ) (base : ℕ) (count : ℕ → ℕ) (q : List ℤ)
    (trail : List Item) (found : List (List ℤ)) (leaves : ℕ) (given kept : List ℤ) (gone : ℕ) →
    IsStrictlyIncreasing p → IsCube p q → All (IsCube p) found →
    GivesCubes f p (length p) base count q trail found leaves given kept gone →
    FitsPrefix f p q (record {
      cubes = filter (λ c. not (within c kept)) found;
      rest = given ∷ [];
      kept = Some kept;
      leaves = gone;
    })

-- So is what a job found and left open when it ends.
abbrev pub ExposeFitsPrefix : Type 0
ExposeFitsPrefix =
    (f : List (List ℤ)) (p : List ℕ) (q : List ℤ) (found left : List (List ℤ)) (leaves : ℕ) →
    IsStrictlyIncreasing p → IsCube p q → All (IsCube p) found →
    Exposes f p (length p) q found left leaves → length left < 2 ^ 32 - 1 →
    FitsPrefix f p q (record { cubes = found; rest = left; kept = None; leaves = leaves })

-- Where nothing is left open, the cubes of a fitting outcome are the right list of its prefix, once
-- they are sorted.
abbrev pub NothingOpenIsRight : Type 0
NothingOpenIsRight =
    (f : List (List ℤ)) (p : List ℕ) (q : List ℤ) (o : Outcome) (cubes : List (List ℤ)) →
    IsCube p q → FitsPrefix f p q o → open_parts o ≡ [] → IsPermutation o.cubes cubes →
    IsSorted cube_order cubes → IsRightList f p q cubes

-- Cubes that are apart weigh no more than there are projected assignments.
abbrev pub ApartCubesWeighLittle : Type 0
ApartCubesWeighLittle =
    (p : List ℕ) (cubes : List (List ℤ)) →
    IsStrictlyIncreasing p → All (λ v. 0 < v) p → All (IsCube p) cubes →
    AllPairs (λ c d. apart c d ≡ true) cubes →
    weights (length p) cubes ≤ 2 ^ length p
