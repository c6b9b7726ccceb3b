use Rattle.clause_arena.proofs.Literals.{keeps_each_once}
use Rattle.clause_arena.proofs.laws.each_literal_is_kept_once.Goals as goal

pub returns : goal.returns
returns c = keeps_each_once
