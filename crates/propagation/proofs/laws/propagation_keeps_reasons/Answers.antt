use Rattle.propagation.proofs.Reasons.{propagation_keeps_reasons}
use Rattle.propagation.proofs.laws.propagation_keeps_reasons.Goals as goal

pub returns : goal.returns
returns _ = propagation_keeps_reasons
