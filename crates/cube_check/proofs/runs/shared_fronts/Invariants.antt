use Rattle.std.proofs.Common.{◌≡◌, ◌<◌, ◌+◌, ℕ, length, get_or, take}
use Rattle.cube_check.specs.Runs.{cube_in}
use Rattle.cube_check.proofs.runs.shared_fronts.Given as goal

abbrev pub invariant-loop-at : goal.invariant-loop-at
invariant-loop-at l = record {
  many : length l.shared.items ≡ length l.places;
  first : get_or l.shared.items 0 0 ≡ 0;
  fronts : (k : ℕ) → k + 1 < l.at →
      take (get_or l.shared.items (k + 1) 0) (cube_in l.met l.places (k + 1)) ≡
      take (get_or l.shared.items (k + 1) 0) (cube_in l.met l.places k);
}
