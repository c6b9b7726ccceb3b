use Rattle.search_region.proofs.Model.{model_keeps_running}
use Rattle.search_region.proofs.laws.model_keeps_running.Goals as goal

pub returns : goal.returns
returns c = model_keeps_running
