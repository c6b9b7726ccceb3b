use Rattle.propagation.proofs.Derived.{rest_is_closed, rest_stays_open}
use Rattle.propagation.proofs.laws.rest_is_a_closed_set.Goals as goal

pub returns-clause-closed : goal.returns-clause-closed
returns-clause-closed _ = rest_is_closed

pub returns-clause-stays_open : goal.returns-clause-stays_open
returns-clause-stays_open _ = rest_stays_open
