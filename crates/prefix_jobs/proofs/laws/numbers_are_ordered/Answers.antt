use Rattle.prefix_jobs.proofs.Order.{numbers_are_ordered}
use Rattle.prefix_jobs.proofs.laws.numbers_are_ordered.Goals as goal

pub returns : goal.returns
returns c = numbers_are_ordered
