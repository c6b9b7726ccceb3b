use Rattle.clause_arena.proofs.Short.{IsWalk}
use Rattle.clause_arena.proofs.dropping.drop_long.Given as goal

abbrev pub invariant-loop-id : goal.invariant-loop-id
invariant-loop-id l =
    IsWalk l.initial.lits.items l.initial.ends.items l.base l.keep l.id l.lits.items l.ends.items l.start l.filled l.kept
