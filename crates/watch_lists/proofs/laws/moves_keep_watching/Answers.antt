use Rattle.watch_lists.proofs.Watching.{moves_keep}
use Rattle.watch_lists.proofs.laws.moves_keep_watching.Goals as goal

pub returns : goal.returns
returns g = moves_keep
