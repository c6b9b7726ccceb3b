use Rattle.search_job.proofs.Cubes.{give_keeps_working}
use Rattle.search_job.proofs.laws.give_keeps_working.Goals as goal

pub returns : goal.returns
returns c = give_keeps_working
