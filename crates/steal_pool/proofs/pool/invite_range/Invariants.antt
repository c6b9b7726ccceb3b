use Rattle.std.proofs.Common.{◌≡◌, ◌++◌, map}
use Rattle.std.specs.List.{slice_range}
use Rattle.steal_pool.specs.Stealing.{visits_of}
use Rattle.steal_pool.specs.Benches.{new_visit, deques_of}
use Rattle.steal_pool.proofs.pool.invite_range.Given as goal

abbrev pub invariant-loop-place : goal.invariant-loop-place
invariant-loop-place l = record {
  same : l.benches ≡ l.initial.benches;
  visits : visits_of l.others.items ≡ visits_of l.initial.others.items
      ++ map new_visit (slice_range (deques_of l.initial.benches) l.from l.place);
}
