use Rattle.std.proofs.Common.{ℕ, ℤ, ◌<◌, get_or}
use Rattle.sat_terms.specs.Literals.{IsLiteralOf}
use Rattle.worker_loop.proofs.fetching.may_be_imported.Given as goal

abbrev pub invariant-loop-literal : goal.invariant-loop-literal
invariant-loop-literal l =
    (k : ℕ) (d : ℤ) → k < l.literal-index → IsLiteralOf l.variables (get_or l.literal-items k d)
