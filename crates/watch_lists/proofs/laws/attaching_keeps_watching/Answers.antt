use Rattle.watch_lists.proofs.Watching.{attaching_keeps}
use Rattle.watch_lists.proofs.laws.attaching_keeps_watching.Goals as goal

pub returns : goal.returns
returns g = attaching_keeps
