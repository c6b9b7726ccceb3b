use Rattle.std.proofs.Common.{◌≡◌, ◌+◌, length}
use Rattle.std.specs.List.{All}
use Rattle.allsat_run.specs.Crews.{IsTool}
use Rattle.allsat_run.proofs.crew.make_tools.Given as goal

abbrev pub invariant-loop-worker : goal.invariant-loop-worker
invariant-loop-worker l = record {
  benches : length l.benches.items + l._worker ≡ l.workers;
  posts : length l.posts.items + l._worker ≡ l.workers;
  count : length l.all.items ≡ l._worker;
  tools : All (IsTool l.subject) l.all.items;
}
