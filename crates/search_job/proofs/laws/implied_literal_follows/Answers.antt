use Rattle.search_job.proofs.Import.{implied_literal_follows}
use Rattle.search_job.proofs.laws.implied_literal_follows.Goals as goal

pub returns : goal.returns
returns c = implied_literal_follows
