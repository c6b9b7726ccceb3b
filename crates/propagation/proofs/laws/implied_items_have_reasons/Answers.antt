use Rattle.propagation.proofs.Reasons.{implied_reason}
use Rattle.propagation.proofs.laws.implied_items_have_reasons.Goals as goal

pub returns : goal.returns
returns _ = implied_reason
