use Rattle.dimacs_front.proofs.LawSteps.{empty_line}
use Rattle.dimacs_front.proofs.text_laws.a_line_without_tokens_changes_nothing.Goals as goal

pub returns : goal.returns
returns c = empty_line
