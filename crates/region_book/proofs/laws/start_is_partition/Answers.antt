use Rattle.region_book.proofs.Begin.{start_is_partition}
use Rattle.region_book.proofs.laws.start_is_partition.Goals as goal

pub returns : goal.returns
returns c = start_is_partition
