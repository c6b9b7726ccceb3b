-- The numbers of one cube line or open line, behind its words.
use Rattle.std.specs.Prelude.{◌≡◌, true, List, [], ◌∷◌, ◌++◌, ℤ, pos}
use Rattle.std.specs.List.{All}
use Rattle.sat_terms.specs.Literals.{IsLiteral}
use Rattle.sat_terms.specs.Cubes.{rises_above}
use Rattle.checkpoint.specs.declared.cube_line.CubeLineRefused.{CubeLineRefused}
use Rattle.checkpoint.specs.declared.cube_line.CubeLineRefused.TheVariants.{Bad, OutOfMemory}

-- they are literals whose variables rise, and one 0 behind them
pub record AreCubeLine (numbers cube : List ℤ) : Type 0 where
  pub literals : All IsLiteral cube
  pub rising : rises_above 0 cube ≡ true
  pub ended : numbers ≡ cube ++ pos 0 ∷ []

-- there are none such; of want of memory nothing is said
abbrev pub IsNoCubeLine : List ℤ → CubeLineRefused → Type 0
IsNoCubeLine numbers Bad = (cube : List ℤ) → AreCubeLine numbers cube → ⊥
IsNoCubeLine numbers (OutOfMemory e) = Unit {0}
