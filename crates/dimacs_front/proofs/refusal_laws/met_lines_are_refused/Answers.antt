use Rattle.dimacs_front.proofs.RefusalSteps.{met_refused}
use Rattle.dimacs_front.proofs.refusal_laws.met_lines_are_refused.Goals as goal

pub returns : goal.returns
returns c = met_refused
