use Rattle.dimacs_tokens.proofs.TokenLaws.{only_tokens}
use Rattle.dimacs_tokens.proofs.laws.only_tokens_are_cut.Goals as goal

pub returns : goal.returns
returns c = only_tokens
