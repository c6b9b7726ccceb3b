use Rattle.dimacs_front.proofs.ShowOrder.{shows_rise}
use Rattle.dimacs_front.proofs.text_laws.show_lines_rise.Goals as goal

pub returns : goal.returns
returns c = shows_rise
