use Rattle.std.proofs.Common.{ℕ, ◌<◌, ◌≤◌, get_or}
use Rattle.worker_loop.proofs.examples.are_variables.Given as goal

abbrev pub invariant-loop-variable : goal.invariant-loop-variable
invariant-loop-variable l = (k : ℕ) → k < l.variable-index → (0 < get_or l.shown k 0) × (get_or l.shown k 0 ≤ l.variables)
