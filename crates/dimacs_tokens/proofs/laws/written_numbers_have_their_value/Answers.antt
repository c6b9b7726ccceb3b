use Rattle.dimacs_tokens.proofs.NumberLaws.{written_value}
use Rattle.dimacs_tokens.proofs.laws.written_numbers_have_their_value.Goals as goal

pub returns : goal.returns
returns c = written_value
