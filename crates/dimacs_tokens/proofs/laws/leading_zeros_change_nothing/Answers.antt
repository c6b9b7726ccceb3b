use Rattle.dimacs_tokens.proofs.NumberLaws.{leading_zeros}
use Rattle.dimacs_tokens.proofs.laws.leading_zeros_change_nothing.Goals as goal

pub returns : goal.returns
returns c = leading_zeros
