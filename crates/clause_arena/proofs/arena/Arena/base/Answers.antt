use Rattle.std.proofs.Common.{ap, length, arith}
use Rattle.clause_arena.specs.Clauses.{Clauses}
use Rattle.clause_arena.proofs.Pieces.{length-pieces}
use Rattle.clause_arena.proofs.arena.Arena.base.Goals as goal

pub returns-clause-within : goal.returns-clause-within
returns-clause-within c =
    let many = length-pieces c.self.inside.lits.items 0 c.self.inside.ends.items in
    let same = ap (λ (v : Clauses). length v.clauses) c.self.view_is in
    let bases = ap (λ (v : Clauses). v.base) c.self.view_is in
    let based = c.self.invariant.based in
    omega arith
