use Rattle.steal_pool.proofs.Balance.{pops}
use Rattle.steal_pool.proofs.bench.Bench.own.Goals as goal

pub take_newest-requires-clause-pops : goal.take_newest-requires-clause-pops
take_newest-requires-clause-pops c = pops
