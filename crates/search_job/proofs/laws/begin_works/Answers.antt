use Rattle.search_job.proofs.Start.{begin_works}
use Rattle.search_job.proofs.laws.begin_works.Goals as goal

pub returns : goal.returns
returns c = begin_works
