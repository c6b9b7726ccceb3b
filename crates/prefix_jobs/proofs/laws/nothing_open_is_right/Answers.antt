use Rattle.prefix_jobs.proofs.Whole.{nothing_open_is_right}
use Rattle.prefix_jobs.proofs.laws.nothing_open_is_right.Goals as goal

pub returns : goal.returns
returns c = nothing_open_is_right
