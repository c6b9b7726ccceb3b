use Rattle.std.proofs.Common.{◌≡◌, ℕ, ◌<◌, get_or}
use Rattle.crossbeam_deque.specs.Handles.{view}
use Rattle.steal_pool.specs.Stealing.{visits_of}
use Rattle.steal_pool.proofs.taking.steal_from.Given as goal

abbrev pub invariant-loop-place : goal.invariant-loop-place
invariant-loop-place g l = record {
  same : visits_of l.others ≡ visits_of l.initial.others;
  empty : (k : ℕ) (d : _) → k < l.place → g.M.Outcome.empty (view (get_or l.initial.others k d).pass);
}
