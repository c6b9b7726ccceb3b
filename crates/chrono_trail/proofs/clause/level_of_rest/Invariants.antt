use Rattle.std.proofs.Common.{◌≡◌, take}
use Rattle.chrono_trail.specs.Clauses.{rest_level}
use Rattle.chrono_trail.proofs.clause.level_of_rest.Given as goal

abbrev pub invariant-loop-other : goal.invariant-loop-other
invariant-loop-other l = l.greatest ≡ rest_level l.trail.items l.lit (take l.other-index l.clause)
