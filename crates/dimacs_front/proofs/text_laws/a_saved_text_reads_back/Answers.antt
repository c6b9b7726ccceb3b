use Rattle.dimacs_front.proofs.SavedBack.{reads_back}
use Rattle.dimacs_front.proofs.text_laws.a_saved_text_reads_back.Goals as goal

pub returns : goal.returns
returns c = reads_back
