use Rattle.search_region.proofs.Imply.{imply_keeps_running}
use Rattle.search_region.proofs.laws.imply_keeps_running.Goals as goal

pub returns : goal.returns
returns c = imply_keeps_running
