use Rattle.region_book.proofs.Whole.{nothing_pending_is_right}
use Rattle.region_book.proofs.laws.nothing_pending_is_right.Goals as goal

pub returns : goal.returns
returns c = nothing_pending_is_right
