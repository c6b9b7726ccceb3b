use Rattle.dimacs_front.proofs.LawSteps.{lowest_line}
use Rattle.dimacs_front.proofs.text_laws.the_lowest_refused_line_counts.Goals as goal

pub returns : goal.returns
returns c = lowest_line
