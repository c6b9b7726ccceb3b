-- The verdict on a listing.
use Rattle.std.specs.Prelude.{◌≡◌, ℕ, ◌-◌, ◌<◌, Bool, true, false, ◌&&◌, ◌||◌, not, nat_le, List, [], ◌++◌, length, take, slice_index_or, ℤ, nat_abs}
use Rattle.std.specs.List.{list_any, list_all}
use Rattle.sat_terms.specs.Cubes.{IsCube, rises_above, is_among, has_literal, has_pair, apart}
use Rattle.cube_check.specs.declared.met.Met.{Met}
use Rattle.cube_check.specs.declared.verdict.Verdict.{Verdict}
use Rattle.cube_check.specs.declared.verdict.Verdict.TheVariants.{Right, NotMet, Overlap}

-- A cube over the shown variables p, and literals of the hidden ones of 1 to n, variables rising.
pub record IsMet (n : ℕ) (p : List ℕ) (m : Met) : Type 0 where
  pub cube : IsCube p m.cube
  pub rising : rises_above 0 m.hidden ≡ true
  pub hidden : list_all (λ l. nat_le (nat_abs l) n && not (is_among p (nat_abs l))) m.hidden ≡ true

-- A clause is met by literals where it holds a literal and its negation, or has one of these.
abbrev pub is_met_by : List ℤ → List ℤ → Bool
is_met_by c clause = has_pair clause || list_any (has_literal c) clause

-- A clause is met by the literals of the cube and the hidden ones together.
abbrev pub meets : Met → List ℤ → Bool
meets m clause = is_met_by (m.cube ++ m.hidden) clause

-- Each clause of the formula is met.
abbrev pub meets_all : List (List ℤ) → Met → Bool
meets_all f m = list_all (meets m) f

-- The one at the place i, counted from 0; the empty one behind the last.
abbrev pub met_at : List Met → ℕ → Met
met_at met i = slice_index_or met i (record { cube = []; hidden = [] })

-- The clause j is the lowest one that i does not meet, and each one below i meets all.
pub record IsFirstMiss (f : List (List ℤ)) (met : List Met) (i j : ℕ) : Type 0 where
  pub cube : i < length met
  pub clause : j < length f
  pub missed : meets (met_at met i) (slice_index_or f j []) ≡ false
  pub lower_clauses : list_all (meets (met_at met i)) (take j f) ≡ true
  pub lower_cubes : list_all (meets_all f) (take i met) ≡ true

-- The cubes at i and j are apart.
abbrev pub apart_at : List Met → ℕ → ℕ → Bool
apart_at met i j = apart (met_at met i).cube (met_at met j).cube

-- The cubes i and j are not apart, j is the lowest such one behind i, and each one below i is apart
-- from all behind it.
pub record IsFirstOverlap (met : List Met) (i j : ℕ) : Type 0 where
  pub behind : i < j
  pub inside : j < length met
  pub overlap : apart_at met i j ≡ false
  pub lower_second : (k : ℕ) → i < k → k < j → apart_at met i k ≡ true
  pub lower_first : (h k : ℕ) → h < i → h < k → k < length met → apart_at met h k ≡ true

-- Any two cubes are apart.
abbrev pub AnyTwoAreApart : List Met → Type 0
AnyTwoAreApart met = (h k : ℕ) → h < k → k < length met → apart_at met h k ≡ true

-- The verdict on the cubes, as met lines of the formula. Its places count from 1.
abbrev pub IsVerdict : List (List ℤ) → List Met → Verdict → Type 0
IsVerdict f met (NotMet i j) = (0 < i) × (0 < j) × IsFirstMiss f met (i - 1) (j - 1)
IsVerdict f met (Overlap i j) =
    (list_all (meets_all f) met ≡ true) × (0 < i) × IsFirstOverlap met (i - 1) (j - 1)
IsVerdict f met Right = (list_all (meets_all f) met ≡ true) × AnyTwoAreApart met
