use Rattle.std.proofs.Common.{◌≡◌, ◌<◌, ℕ, true}
use Rattle.cube_check.specs.Verdicts.{apart_at}
use Rattle.cube_check.proofs.overlaps.first_behind.Given as goal

abbrev pub invariant-loop-second : goal.invariant-loop-second
invariant-loop-second l = (k : ℕ) → l.first < k → k < l.second → apart_at l.met l.first k ≡ true
