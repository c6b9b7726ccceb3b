use Rattle.unit_closure.proofs.Follows.{grows_along, closes_along}
use Rattle.unit_closure.proofs.laws.grows_with_clauses_and_literals.Goals as goal

pub returns-clause-closure : goal.returns-clause-closure
returns-clause-closure c = grows_along

pub returns-clause-closes : goal.returns-clause-closes
returns-clause-closes c = closes_along
