use Rattle.search_job.proofs.Import.{import_follows}
use Rattle.search_job.proofs.laws.import_follows.Goals as goal

pub returns : goal.returns
returns c = import_follows
