use Rattle.search_job.proofs.Open.{untried_cubes_first}
use Rattle.search_job.proofs.laws.lowest_untried.Goals as goal

pub returns : goal.returns
returns c = untried_cubes_first
