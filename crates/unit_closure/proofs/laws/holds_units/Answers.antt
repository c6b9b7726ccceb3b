use Rattle.unit_closure.proofs.Follows.{holds_units}
use Rattle.unit_closure.proofs.laws.holds_units.Goals as goal

pub returns : goal.returns
returns c = holds_units
