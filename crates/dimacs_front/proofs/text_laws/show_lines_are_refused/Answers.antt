use Rattle.dimacs_front.proofs.LawSteps.{shows_refused}
use Rattle.dimacs_front.proofs.text_laws.show_lines_are_refused.Goals as goal

pub returns : goal.returns
returns c = shows_refused
