use Rattle.search_region.proofs.Root.{root_whole}
use Rattle.search_job.proofs.Kept.{root_next}
use Rattle.search_job.proofs.laws.root_is_read.Goals as goal

pub returns : goal.returns
returns c = λ f shown k. record { none = root_whole k; next = root_next f shown k }
