use Rattle.search_job.proofs.Imply.{imply_keeps_working}
use Rattle.search_job.proofs.laws.imply_keeps_working.Goals as goal

pub returns : goal.returns
returns c = imply_keeps_working
