use Rattle.dimacs_tokens.proofs.LineLaws.{lines-text_of}
use Rattle.dimacs_tokens.proofs.laws.ended_lines_are_lines.Goals as goal

pub returns : goal.returns
returns c = lines-text_of
