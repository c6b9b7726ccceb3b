use Rattle.dimacs_tokens.proofs.TokenLaws.{parted_tokens}
use Rattle.dimacs_tokens.proofs.laws.parted_tokens_are_cut.Goals as goal

pub returns : goal.returns
returns c = parted_tokens
