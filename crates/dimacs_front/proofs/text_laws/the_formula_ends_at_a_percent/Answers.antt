use Rattle.dimacs_front.proofs.LawSteps.{percent_line}
use Rattle.dimacs_front.proofs.text_laws.the_formula_ends_at_a_percent.Goals as goal

pub returns : goal.returns
returns c = percent_line
