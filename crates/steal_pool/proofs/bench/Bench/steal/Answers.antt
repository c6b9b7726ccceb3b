use Rattle.steal_pool.proofs.Balance.{takes}
use Rattle.steal_pool.proofs.bench.Bench.steal.Goals as goal

pub steal_from-requires-clause-takes : goal.steal_from-requires-clause-takes
steal_from-requires-clause-takes g c = takes
