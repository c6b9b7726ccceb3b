use Rattle.std.proofs.Common.{◌≡◌, ◌<◌, ◌+◌, ◌*◌, ℕ, length, true}
use Rattle.cube_check.specs.Verdicts.{apart_at}
use Rattle.cube_check.proofs.overlaps.first_overlap.Given as goal

abbrev pub invariant-loop-first : goal.invariant-loop-first
invariant-loop-first l = record {
  lower : (h k : ℕ) → h < l.first → h < k → k < length l.met → apart_at l.met h k ≡ true;
  places : length l.marks.stamps ≡ 2 * (l.variables + 1);
}
