use Rattle.search_job.proofs.Turn.{asserting_is_reason}
use Rattle.search_job.proofs.laws.asserting_is_reason.Goals as goal

pub returns : goal.returns
returns c = asserting_is_reason
