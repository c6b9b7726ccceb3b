use Rattle.search_job.proofs.Reasons.{steady_is_reasoned}
use Rattle.search_job.proofs.laws.steady_is_reasoned.Goals as goal

pub returns : goal.returns
returns c = steady_is_reasoned
