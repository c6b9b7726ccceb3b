use Rattle.search_job.proofs.Decide.{decide_keeps_working}
use Rattle.search_job.proofs.laws.decide_keeps_working.Goals as goal

pub returns : goal.returns
returns c = decide_keeps_working
