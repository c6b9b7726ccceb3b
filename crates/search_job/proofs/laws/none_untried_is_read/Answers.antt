use Rattle.search_job.proofs.Counted.{untried_hidden, untried_none}
use Rattle.search_job.proofs.laws.none_untried_is_read.Goals as goal

pub returns : goal.returns
returns c = λ f shown base. record { none = untried_none f shown base; hides = untried_hidden f shown base }
