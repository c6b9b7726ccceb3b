use Rattle.search_job.proofs.Leaf.{turn_leaves_less}
use Rattle.search_job.proofs.laws.turn_leaves_less.Goals as goal

pub returns : goal.returns
returns c = turn_leaves_less
