-- What a formula and its shown variables are, as every search takes them.
use Rattle.std.specs.Prelude.{ℕ, ◌<◌, ◌≤◌, ◌^◌, List, length, ℤ}
use Rattle.std.specs.List.{All, sum_by}
use Rattle.std.specs.List.Sorted.{IsStrictlyIncreasing}
use Rattle.sat_terms.specs.Literals.{IsLiteralOf}
use Rattle.sat_terms.specs.Cubes.{IsCube}

-- A formula over the variables 1 to n, within the sizes that the product takes.
pub record IsFormula (n : ℕ) (f : List (List ℤ)) : Type 0 where
  pub variables : n ≤ 1000000
  pub clauses : length f < 2 ^ 30
  pub literals : sum_by length f < 2 ^ 31
  pub named : All (All (IsLiteralOf n)) f

-- A list of variables, which rise.
pub record IsVariableList (p : List ℕ) : Type 0 where
  pub rising : IsStrictlyIncreasing p
  pub named : All (λ v. (0 < v) × (v < 2 ^ 31)) p

-- The shown variables p are some of 1 to n, and rise.
pub record IsShown (n : ℕ) (p : List ℕ) : Type 0 where
  pub rising : IsStrictlyIncreasing p
  pub named : All (λ v. (0 < v) × (v ≤ n)) p

-- A formula with its shown variables, and the given literals, a cube over them.
pub record IsSubject (n : ℕ) (f : List (List ℤ)) (p : List ℕ) (u : List ℤ) : Type 0 where
  pub formula : IsFormula n f
  pub shown : IsShown n p
  pub under : IsCube p u
