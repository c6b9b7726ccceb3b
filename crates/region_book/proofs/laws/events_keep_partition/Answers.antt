use Rattle.region_book.proofs.Kept.{events_keep_partition}
use Rattle.region_book.proofs.laws.events_keep_partition.Goals as goal

pub returns : goal.returns
returns c = events_keep_partition
