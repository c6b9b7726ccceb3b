use Rattle.dimacs_front.proofs.LawSteps.{first_number}
use Rattle.dimacs_front.proofs.text_laws.the_first_refused_number_counts.Goals as goal

pub returns : goal.returns
returns c = first_number
