use Rattle.search_job.proofs.Model.{model_keeps_working}
use Rattle.search_job.proofs.laws.model_keeps_working.Goals as goal

pub returns : goal.returns
returns c = model_keeps_working
