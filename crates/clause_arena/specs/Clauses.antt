-- What contracts see of an arena.
use Rattle.std.specs.Prelude.{◌≢◌, ℕ, ◌+◌, ◌≤◌, Bool, ◌&&◌, nat_lt, nat_le, List, ◌++◌, length, take, drop, filter, ℤ, nat_abs}
use Rattle.std.specs.List.{All, AllPairs, sum_by}
use Rattle.sat_terms.specs.Literals.{IsLiteral}
use Rattle.clause_arena.specs.Once.{HasEachOnce}

-- A list of clauses, of which the first `base` stand for those of the formula.
pub record Clauses : Type 0 where
  pub clauses : List (List ℤ)
  pub base : ℕ

-- The clauses after those of the formula.
abbrev pub lemmas : Clauses → List (List ℤ)
lemmas arena = drop arena.base arena.clauses

-- No two places of the clause have literals of one variable.
abbrev pub HasDistinctVariables : List ℤ → Type 0
HasDistinctVariables c = AllPairs (λ l m. nat_abs l ≢ nat_abs m) c

-- Each clause is of literals, each of them once, and a lemma has each variable once. A clause of
-- the formula may have a literal and its negation. All clauses of the formula are there.
pub record IsArena (arena : Clauses) : Type 0 where
  pub based : arena.base ≤ length arena.clauses
  pub literals : All (All IsLiteral) arena.clauses
  pub once : All HasEachOnce arena.clauses
  pub variables : All HasDistinctVariables (lemmas arena)

-- A lemma of so many literals can be added: at most 1,000,000 lemmas, with at most 16,000,000
-- literals together.
abbrev pub has_room : Clauses → ℕ → Bool
has_room arena count =
    nat_lt (length (lemmas arena)) 1000000
    && nat_le (sum_by length (lemmas arena) + count) 16000000

-- The first `base` clauses, and of those behind them the ones of at most `keep` literals.
abbrev pub without_long : ℕ → ℕ → List (List ℤ) → List (List ℤ)
without_long base keep clauses =
    take base clauses ++ filter (λ c. nat_le (length c) keep) (drop base clauses)
