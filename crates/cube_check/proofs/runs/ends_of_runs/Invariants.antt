use Rattle.cube_check.specs.Runs.{ArePast}
use Rattle.cube_check.proofs.runs.ends_of_runs.Given as goal

abbrev pub invariant-loop-at : goal.invariant-loop-at
invariant-loop-at l = ArePast l.shared l.past.items (l.at)
