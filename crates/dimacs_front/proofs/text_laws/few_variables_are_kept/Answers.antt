use Rattle.dimacs_front.proofs.Sound.{names_few}
use Rattle.dimacs_front.proofs.text_laws.few_variables_are_kept.Goals as goal

pub returns : goal.returns
returns c = names_few
