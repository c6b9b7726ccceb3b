use Rattle.search_job.proofs.Least.{least_reaches_above}
use Rattle.search_job.proofs.laws.least_reaches_above.Goals as goal

pub returns : goal.returns
returns c = λ f shown trail. least_reaches_above shown trail f
