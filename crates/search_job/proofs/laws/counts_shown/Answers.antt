use Rattle.search_job.proofs.Same.{counts_shown}
use Rattle.search_job.proofs.laws.counts_shown.Goals as goal

pub returns : goal.returns
returns c = counts_shown
