use Rattle.steal_pool.proofs.Balance.{puts}
use Rattle.steal_pool.proofs.bench.Bench.put.Goals as goal

pub push_as-requires-clause-pushes : goal.push_as-requires-clause-pushes
push_as-requires-clause-pushes c = puts _ _ _
