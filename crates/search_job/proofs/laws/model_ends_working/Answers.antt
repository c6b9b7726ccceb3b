use Rattle.search_job.proofs.Model.{model_ends_working}
use Rattle.search_job.proofs.laws.model_ends_working.Goals as goal

pub returns : goal.returns
returns c = model_ends_working
