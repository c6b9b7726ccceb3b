use Rattle.steal_pool.proofs.Balance.{begins}
use Rattle.steal_pool.proofs.bench.Bench.alone.Goals as goal

pub lifo_as-requires : goal.lifo_as-requires
lifo_as-requires c = begins
