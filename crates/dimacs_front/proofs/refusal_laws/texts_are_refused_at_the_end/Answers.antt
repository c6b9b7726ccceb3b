use Rattle.dimacs_front.proofs.EndRefusals.{ends_refused}
use Rattle.dimacs_front.proofs.refusal_laws.texts_are_refused_at_the_end.Goals as goal

pub returns : goal.returns
returns c = ends_refused
