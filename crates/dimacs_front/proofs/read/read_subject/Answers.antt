use Rattle.dimacs_front.proofs.Taking.{nothing_read, text_told}
use Rattle.dimacs_front.proofs.SavedInside.{text_inside, text_met}
use Rattle.dimacs_front.proofs.Sound.{text_limits}
use Rattle.dimacs_front.proofs.read.read_subject.Goals as goal

pub returns-in_err-buffer-clause-reads : goal.returns-in_err-buffer-clause-reads
returns-in_err-buffer-clause-reads g c = nothing_read _ _ c.from_residual.result c.from_residual.ensures.1

pub returns-clause-told : goal.returns-clause-told
returns-clause-told g c = text_told _ _ _ c.read_pieces.ensures

pub returns-clause-sizes : goal.returns-clause-sizes
returns-clause-sizes g c = text_limits _ _ _ c.read_pieces.ensures

pub returns-clause-saved : goal.returns-clause-saved
returns-clause-saved g c = text_inside _ _ _ c.read_pieces.ensures

pub returns-clause-met : goal.returns-clause-met
returns-clause-met g c = text_met _ _ _ c.read_pieces.ensures
