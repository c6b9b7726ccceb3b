use Rattle.std.proofs.Common.{◌<◌, ◌≤◌, ◌-◌, ℕ, length, get_or}
use Rattle.cube_check.proofs.runs.first_fewer.Given as goal

abbrev pub invariant-loop-next : goal.invariant-loop-next
invariant-loop-next l = record {
  above : l.at < l.next;
  within : l.next ≤ length l.shared;
  run : (m : ℕ) → l.at < m → m < l.next → l.front ≤ get_or l.shared m 0;
}

abbrev pub decreases-loop-next : goal.decreases-loop-next
decreases-loop-next l = length l.shared - l.next
