use Rattle.search_job.proofs.Counted.{next_count_low, next_count_shown, next_count_hidden}
use Rattle.search_job.proofs.laws.next_count_is_read.Goals as goal

pub returns : goal.returns
returns c = λ f shown k count now. record {
  none = next_count_low f shown k count now;
  shows = next_count_shown f shown k count now;
  hides = next_count_hidden f shown k count now;
}
