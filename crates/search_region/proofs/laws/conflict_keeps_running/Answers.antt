use Rattle.search_region.proofs.Conflict.{conflict_keeps_running}
use Rattle.search_region.proofs.laws.conflict_keeps_running.Goals as goal

pub returns : goal.returns
returns c = conflict_keeps_running
