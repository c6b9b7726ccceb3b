use Rattle.search_region.proofs.Model.{model_closes}
use Rattle.search_region.proofs.laws.model_closes.Goals as goal

pub returns : goal.returns
returns c = model_closes
