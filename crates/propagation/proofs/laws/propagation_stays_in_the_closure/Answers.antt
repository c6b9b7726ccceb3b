use Rattle.propagation.proofs.Derived.{propagation_derives, conflict_closes}
use Rattle.propagation.proofs.laws.propagation_stays_in_the_closure.Goals as goal

pub returns-clause-derives : goal.returns-clause-derives
returns-clause-derives _ = propagation_derives

pub returns-clause-closes : goal.returns-clause-closes
returns-clause-closes _ = conflict_closes
