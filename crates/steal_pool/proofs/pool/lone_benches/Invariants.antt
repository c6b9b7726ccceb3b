use Rattle.std.proofs.Common.{◌≡◌, length}
use Rattle.std.specs.List.{All}
use Rattle.steal_pool.specs.Benches.{IsAlone}
use Rattle.steal_pool.proofs.pool.lone_benches.Given as goal

abbrev pub invariant-loop : goal.invariant-loop
invariant-loop l = record {
  alone : All IsAlone l.benches.items;
  count : length l.benches.items ≡ l.counter;
}
