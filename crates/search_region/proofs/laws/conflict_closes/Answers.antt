use Rattle.search_region.proofs.Conflict.{conflict_closes}
use Rattle.search_region.proofs.laws.conflict_closes.Goals as goal

pub returns : goal.returns
returns c = conflict_closes
