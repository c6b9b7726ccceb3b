use Rattle.std.proofs.Common.{◌∙◌, sym}
use Rattle.search_region.proofs.Model.{implicant_good}
use Rattle.search_region.proofs.laws.met_cube_is_good.Goals as goal

pub returns : goal.returns
returns c = λ f shown b trail cube s named met says t held. implicant_good f shown b t trail s named met (sym (says.says t) ∙ held)
