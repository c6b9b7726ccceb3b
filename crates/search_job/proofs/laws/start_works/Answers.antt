use Rattle.search_job.proofs.Start.{start_works}
use Rattle.search_job.proofs.laws.start_works.Goals as goal

pub returns : goal.returns
returns c = start_works
