use Rattle.std.proofs.Common.{◌≡◌, ◌+◌, ◌*◌, ◌≤◌, length}
use Rattle.std.specs.List.{All}
use Rattle.clause_arena.proofs.Making.{IsMade}
use Rattle.clause_arena.proofs.arena.Arena.make.Given as goal

abbrev pub invariant-loop-id : goal.invariant-loop-id
invariant-loop-id l = record {
  made : IsMade l.lits.items l.ends.items l.clause-items l.id;
  stamped : All (λ s. s ≤ l.id) l.stamps.items;
  wide : length l.stamps.items ≡ 2 * (l.formula.variables + 1);
}
