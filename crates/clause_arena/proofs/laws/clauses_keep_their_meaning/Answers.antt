use Rattle.clause_arena.proofs.Meaning.{once_keeps_truth, once_keeps_pairs, once_keeps_places}
use Rattle.clause_arena.proofs.laws.clauses_keep_their_meaning.Goals as goal

pub returns-clause-truth : goal.returns-clause-truth
returns-clause-truth _ = once_keeps_truth

pub returns-clause-pairs : goal.returns-clause-pairs
returns-clause-pairs _ = once_keeps_pairs

pub returns-clause-places : goal.returns-clause-places
returns-clause-places _ = once_keeps_places
