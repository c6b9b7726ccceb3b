use Rattle.dimacs_front.proofs.LawSteps.{show_line}
use Rattle.dimacs_front.proofs.text_laws.a_show_line_shows_its_variables.Goals as goal

pub returns : goal.returns
returns c = show_line
