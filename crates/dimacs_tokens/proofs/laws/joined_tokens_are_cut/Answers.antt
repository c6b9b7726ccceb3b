use Rattle.dimacs_tokens.proofs.TokenLaws.{joined_tokens}
use Rattle.dimacs_tokens.proofs.laws.joined_tokens_are_cut.Goals as goal

pub returns : goal.returns
returns c = joined_tokens
