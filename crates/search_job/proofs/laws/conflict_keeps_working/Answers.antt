use Rattle.search_job.proofs.Conflict.{conflict_keeps_working}
use Rattle.search_job.proofs.laws.conflict_keeps_working.Goals as goal

pub returns : goal.returns
returns c = conflict_keeps_working
