use Rattle.dimacs_front.proofs.LawSteps.{number_line}
use Rattle.dimacs_front.proofs.text_laws.a_line_of_numbers_says_these.Goals as goal

pub returns : goal.returns
returns c = number_line
