-- Truth of clauses, formulas and cubes under a total assignment.
use Rattle.std.specs.Prelude.{ℕ, Bool, ℤ, List}
use Rattle.std.specs.List.{list_any, list_all}
use Rattle.sat_terms.specs.Literals.{lit_true}

-- A clause is true where one of its literals is; the empty clause never is.
abbrev pub sat_clause : (ℕ → Bool) → List ℤ → Bool
sat_clause t c = list_any (lit_true t) c

-- A formula is true where each of its clauses is; the formula without clauses always is.
abbrev pub sat : List (List ℤ) → (ℕ → Bool) → Bool
sat f t = list_all (sat_clause t) f

-- A total assignment lies in a cube where each literal of the cube is true in it; all lie in the
-- empty cube.
abbrev pub holds : (ℕ → Bool) → List ℤ → Bool
holds t c = list_all (lit_true t) c
