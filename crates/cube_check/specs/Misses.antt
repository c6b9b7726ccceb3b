-- What the walks for a clause that is not met answer.
use Rattle.std.specs.Prelude.{◌≡◌, ℕ, ◌<◌, true, false, List, [], length, take, slice_index_or, ℤ, Option, Some, None}
use Rattle.std.specs.List.{All, list_all}
use Rattle.sat_terms.specs.Cubes.{rises_above}
use Rattle.sat_terms.specs.Literals.{IsLiteralOf}
use Rattle.cube_check.specs.declared.met.Met.{Met}
use Rattle.cube_check.specs.Verdicts.{is_met_by, meets_all, IsFirstMiss}

-- Literals of the variables 1 to n; those of the cube rise.
pub record IsNamed (n : ℕ) (m : Met) : Type 0 where
  pub rising : rises_above 0 m.cube ≡ true
  pub cube : All (IsLiteralOf n) m.cube
  pub hidden : All (IsLiteralOf n) m.hidden

-- The place of the first clause that they do not meet, if there is one.
abbrev pub MissesFirst : List ℤ → List (List ℤ) → Option ℕ → Type 0
MissesFirst c f None = list_all (is_met_by c) f ≡ true
MissesFirst c f (Some j) = (j < length f) × (is_met_by c (slice_index_or f j []) ≡ false) ×
    (list_all (is_met_by c) (take j f) ≡ true)

-- The places of the first cube that does not meet all, and of the first clause that it misses.
abbrev pub TellsMiss : List (List ℤ) → List Met → Option (ℕ × ℕ) → Type 0
TellsMiss f met None = list_all (meets_all f) met ≡ true
TellsMiss f met (Some p) = IsFirstMiss f met p.0 p.1
