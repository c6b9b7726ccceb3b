use Rattle.dimacs_front.proofs.RefusalSteps.{below_refused}
use Rattle.dimacs_front.proofs.refusal_laws.lines_below_the_header_are_refused.Goals as goal

pub returns : goal.returns
returns c = below_refused
