use Rattle.std.proofs.Common.{◌∙◌}
use Rattle.cube_text.proofs.Handing.{Hands-along}
use Rattle.cube_check.proofs.verdict_text.put_place.Goals as goal

pub returns : goal.returns
returns g c = Hands-along _ _ _ _ _ _ (c.as_bytes.ensures.value ∙ c.format.ensures.text) c.put.ensures
