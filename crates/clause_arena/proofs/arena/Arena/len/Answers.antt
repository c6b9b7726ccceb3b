use Rattle.std.proofs.Common.{sym, ap, subst, ◌∙◌, length, arith}
use Rattle.clause_arena.specs.Clauses.{Clauses, IsArena}
use Rattle.clause_arena.proofs.Pieces.{length-pieces}
use Rattle.clause_arena.proofs.arena.Arena.len.Goals as goal

pub returns-clause-length : goal.returns-clause-length
returns-clause-length c =
    c.len.ensures ∙ c.self.inside.ends.ok.0 ∙ sym (length-pieces c.self.inside.lits.items 0 c.self.inside.ends.items)
    ∙ ap (λ (v : Clauses). length v.clauses) c.self.view_is

pub returns-clause-arena : goal.returns-clause-arena
returns-clause-arena c = subst IsArena c.self.view_is c.self.invariant.arena

pub returns-clause-few : goal.returns-clause-few
returns-clause-few c =
    let many = length-pieces c.self.inside.lits.items 0 c.self.inside.ends.items in
    let same = ap (λ (v : Clauses). length v.clauses) c.self.view_is in
    let base = c.self.invariant.clauses in
    let lemmas = c.self.invariant.lemmas in
    omega arith
