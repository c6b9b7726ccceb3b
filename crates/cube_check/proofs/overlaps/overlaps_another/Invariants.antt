use Rattle.std.proofs.Common.{◌-◌, length}
use Rattle.cube_check.proofs.Passing.{Walked}
use Rattle.cube_check.proofs.overlaps.overlaps_another.Given as goal

abbrev pub invariant-loop-at : goal.invariant-loop-at
invariant-loop-at l = Walked l.met l.runs.places l.runs.shared l.place l.at

abbrev pub decreases-loop-at : goal.decreases-loop-at
decreases-loop-at l = length l.runs.places - l.at
