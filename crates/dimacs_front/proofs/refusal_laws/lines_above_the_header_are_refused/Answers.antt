use Rattle.dimacs_front.proofs.RefusalSteps.{above_refused}
use Rattle.dimacs_front.proofs.refusal_laws.lines_above_the_header_are_refused.Goals as goal

pub returns : goal.returns
returns c = above_refused
