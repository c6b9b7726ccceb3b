use Rattle.std.proofs.Common.{◌≡◌, ℕ, take}
use Rattle.plain_search.specs.Steps.{level_within, counts_any}
use Rattle.plain_search.proofs.search.Search.clause_level.Given as goal

abbrev pub invariant-loop-lit : goal.invariant-loop-lit
invariant-loop-lit l = (b : ℕ) → counts_any l.subject l.self b (take l.lit-index l.clause) ≡ level_within b l.least
