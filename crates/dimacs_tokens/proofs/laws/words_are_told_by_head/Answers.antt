use Rattle.dimacs_tokens.proofs.NumberLaws.{words_by_head}
use Rattle.dimacs_tokens.proofs.laws.words_are_told_by_head.Goals as goal

pub returns : goal.returns
returns c = words_by_head
