use Rattle.search_job.proofs.Conflict.{conflict_ends_working}
use Rattle.search_job.proofs.laws.conflict_ends_working.Goals as goal

pub returns : goal.returns
returns c = conflict_ends_working
