use Rattle.watch_lists.proofs.Walks.{walks_on}
use Rattle.watch_lists.proofs.laws.a_walk_gives_each_once.Goals as goal

pub returns : goal.returns
returns g = walks_on
