-- The cubes in an order of their places, and what neighbours in it begin with.
use Rattle.std.specs.Prelude.{◌≡◌, ◌≢◌, ℕ, ◌+◌, ◌<◌, ◌≤◌, Bool, true, false, List, length, take, slice_index_or, ℤ, neg_ℤ, pos, Option, Some, None}
use Rattle.std.specs.List.{All, Contains}
use Rattle.sat_terms.specs.Cubes.{has_literal, apart}
use Rattle.cube_check.specs.declared.met.Met.{Met}
use Rattle.cube_check.specs.Verdicts.{met_at, apart_at, AnyTwoAreApart, IsFirstOverlap}

-- The places of the cubes; how many literals each one begins with as the one before it does; and
-- the first place behind each one where that is fewer.
pub record RunsView : Type 0 where
  pub places : List ℕ
  pub shared : List ℕ
  pub past : List ℕ

-- The number at k, or 0.
abbrev pub number_at : List ℕ → ℕ → ℕ
number_at xs k = slice_index_or xs k 0

-- The cube at k in the order of the places.
abbrev pub cube_in : List Met → List ℕ → ℕ → List ℤ
cube_in met places k = (met_at met (number_at places k)).cube

-- The places are those of the cubes, each once.
pub record ArePlaces (n : ℕ) (places : List ℕ) : Type 0 where
  pub many : length places ≡ n
  pub inside : All (λ j. j < n) places
  pub each : (j : ℕ) → j < n → Contains places j

-- Each cube begins as the one before it does; the first one shares nothing.
pub record AreShared (met : List Met) (places shared : List ℕ) : Type 0 where
  pub many : length shared ≡ length places
  pub first : number_at shared 0 ≡ 0
  pub fronts : (k : ℕ) → k + 1 < length places →
      take (number_at shared (k + 1)) (cube_in met places (k + 1)) ≡
      take (number_at shared (k + 1)) (cube_in met places k)

-- All between k and what is past k share as much as k does.
pub record IsPast (shared past : List ℕ) (k : ℕ) : Type 0 where
  pub above : k < number_at past k
  pub within : number_at past k ≤ length shared
  pub run : (m : ℕ) → k < m → m < number_at past k → number_at shared k ≤ number_at shared m

-- So it is for all from a place on.
pub record ArePast (shared past : List ℕ) (from : ℕ) : Type 0 where
  pub many : length past ≡ length shared
  pub each : (k : ℕ) → from ≤ k → k < length shared → IsPast shared past k

-- The runs of the cubes.
pub record AreRuns (met : List Met) (r : RunsView) : Type 0 where
  pub places : ArePlaces (length met) r.places
  pub shared : AreShared met r.places r.shared
  pub past : ArePast r.shared r.past 0

-- The first place behind k that shares fewer than so many literals with the one before it.
pub record IsFirstFewer (shared : List ℕ) (k front next : ℕ) : Type 0 where
  pub above : k < next
  pub within : next ≤ length shared
  pub run : (m : ℕ) → k < m → m < next → front ≤ number_at shared m
  pub fewer : next < length shared → number_at shared next < front

-- The first literal from a place on whose negation is in c, where no negation of those before is.
abbrev pub TellsNegated : List ℤ → List ℤ → ℕ → Option ℕ → Type 0
TellsNegated c d from None = apart (take from d) c ≡ false → apart d c ≡ false
TellsNegated c d from (Some k) = (from ≤ k) × (k < length d) ×
    (has_literal c (neg_ℤ (slice_index_or d k (pos 0))) ≡ true) ×
    (apart (take from d) c ≡ false → apart (take k d) c ≡ false)

-- Whether the cube at i is not apart from some other one.
abbrev pub TellsOverlap : List Met → ℕ → Bool → Type 0
TellsOverlap met i true = (j : ℕ) × (j < length met) × (j ≢ i) × (apart_at met i j ≡ false)
TellsOverlap met i false = (j : ℕ) → j < length met → j ≢ i → apart_at met i j ≡ true

-- The lowest cube behind i that the one at i is not apart from, if there is one.
abbrev pub TellsSecond : List Met → ℕ → Option ℕ → Type 0
TellsSecond met i None = (k : ℕ) → i < k → k < length met → apart_at met i k ≡ true
TellsSecond met i (Some j) = (i < j) × (j < length met) × (apart_at met i j ≡ false) ×
    ((k : ℕ) → i < k → k < j → apart_at met i k ≡ true)

-- The lowest two cubes that are not apart, if there are any.
abbrev pub TellsOverlaps : List Met → Option (ℕ × ℕ) → Type 0
TellsOverlaps met None = AnyTwoAreApart met
TellsOverlaps met (Some p) = IsFirstOverlap met p.0 p.1
