use Rattle.std.proofs.Common.{ℕ, ◌<◌, get_or, pos}
use Rattle.sat_terms.specs.Literals.{IsLiteralOf}
use Rattle.worker_loop.proofs.examples.are_literals.Given as goal

abbrev pub invariant-loop-lit : goal.invariant-loop-lit
invariant-loop-lit l = (k : ℕ) → k < l.lit-index → IsLiteralOf l.variables (get_or l.lits k (pos 0))
