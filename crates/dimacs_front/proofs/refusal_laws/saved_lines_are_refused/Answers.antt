use Rattle.dimacs_front.proofs.RefusalSteps.{saved_refused}
use Rattle.dimacs_front.proofs.refusal_laws.saved_lines_are_refused.Goals as goal

pub returns : goal.returns
returns c = saved_refused
