use Rattle.dimacs_front.proofs.RefusalSteps.{lists_refused}
use Rattle.dimacs_front.proofs.refusal_laws.lists_are_refused.Goals as goal

pub returns : goal.returns
returns c = lists_refused
