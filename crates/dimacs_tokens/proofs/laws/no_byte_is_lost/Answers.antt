use Rattle.dimacs_tokens.proofs.TokenLaws.{no_byte_lost}
use Rattle.dimacs_tokens.proofs.laws.no_byte_is_lost.Goals as goal

pub returns : goal.returns
returns c = no_byte_lost
