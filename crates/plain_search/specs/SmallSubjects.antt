-- For tests: small formulas.
use Rattle.std.specs.Prelude.{ℕ, ◌≤◌, List, length, ℤ}
use Rattle.std.specs.List.{All}
use Rattle.sat_terms.specs.Literals.{IsLiteralOf}

-- A clause of at most 1000000 literals of the variables 1 to n.
pub record IsShortClause (n : ℕ) (c : List ℤ) : Type 0 where
  pub short : length c ≤ 1000000
  pub named : All (IsLiteralOf n) c

-- At most 1000 such clauses.
pub record IsShortFormula (n : ℕ) (f : List (List ℤ)) : Type 0 where
  pub few : length f ≤ 1000
  pub short : All (IsShortClause n) f
