use Rattle.search_region.proofs.Right.{closed_is_right}
use Rattle.search_region.proofs.laws.closed_is_right.Goals as goal

pub returns : goal.returns
returns c = closed_is_right
