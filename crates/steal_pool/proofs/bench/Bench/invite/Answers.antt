use Rattle.steal_pool.proofs.Balance.{forks}
use Rattle.steal_pool.proofs.bench.Bench.invite.Goals as goal

pub another-pass-requires : goal.another-pass-requires
another-pass-requires c = forks _ _
