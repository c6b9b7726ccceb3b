use Rattle.std.proofs.Common.{ℕ, ◌<◌, get_or, []}
use Rattle.plain_search.specs.SmallSubjects.{IsShortClause}
use Rattle.plain_search.proofs.checked.is_short_formula.Given as goal

abbrev pub invariant-loop-clause : goal.invariant-loop-clause
invariant-loop-clause l = (k : ℕ) → k < l.clause-index → IsShortClause l.variables (get_or l.clauses k [])
