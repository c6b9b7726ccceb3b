use Rattle.search_job.proofs.Start.{assume_keeps_running}
use Rattle.search_job.proofs.laws.assume_keeps_running.Goals as goal

pub returns : goal.returns
returns c = assume_keeps_running
