use Rattle.prefix_jobs.proofs.Space.{apart_cubes_weigh_little}
use Rattle.prefix_jobs.proofs.laws.apart_cubes_weigh_little.Goals as goal

pub returns : goal.returns
returns c = apart_cubes_weigh_little
