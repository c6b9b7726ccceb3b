use Rattle.dimacs_front.proofs.SavedInside.{saved_lines_rise}
use Rattle.dimacs_front.proofs.text_laws.saved_lines_rise.Goals as goal

pub returns : goal.returns
returns c = saved_lines_rise
