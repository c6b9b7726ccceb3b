use Rattle.dimacs_tokens.proofs.LineLaws.{last_line-open}
use Rattle.dimacs_tokens.proofs.laws.a_last_line_needs_no_end.Goals as goal

pub returns : goal.returns
returns c = last_line-open
