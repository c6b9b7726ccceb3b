use Rattle.dimacs_front.proofs.RefusalSteps.{under_lists}
use Rattle.dimacs_front.proofs.refusal_laws.under_lines_are_lists.Goals as goal

pub returns : goal.returns
returns c = under_lists
