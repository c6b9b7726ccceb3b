use Rattle.std.proofs.Common.{◌≡◌, ◌<◌, ◌∷◌, List, ℕ, ℤ, sym, ap, subst, ◌∙◌, length, arith, [], get_or}
use Rattle.std.proofs.lemmas.List.{get_or_default}
use Rattle.std.specs.List.{All}
use Rattle.sat_terms.specs.Literals.{IsLiteral}
use Rattle.clause_arena.specs.Clauses.{Clauses, IsArena, HasDistinctVariables}
use Rattle.clause_arena.specs.Once.{HasEachOnce}
use Rattle.clause_arena.proofs.Kept.{lemma_at}
use Rattle.clause_arena.proofs.Laid.{clause_at}
use Rattle.clause_arena.proofs.Pieces.{length-pieces, end_at}
use Rattle.clause_arena.proofs.arena.Arena.lits.Goals as goal

pub start_of-start-requires : goal.start_of-start-requires
start_of-start-requires c =
    let many = length-pieces c.self.inside.lits.items 0 c.self.inside.ends.items in
    let same = ap (λ (v : Clauses). length v.clauses) c.self.view_is in
    let here = c.requires in
    let list = ap (λ (xs : List ℕ). length xs) c.deref.ensures.value in
    omega arith

pub index-requires : goal.index-requires
index-requires c =
    let many = length-pieces c.self.inside.lits.items 0 c.self.inside.ends.items in
    let same = ap (λ (v : Clauses). length v.clauses) c.self.view_is in
    let here = c.requires in
    let len = c.self.inside.ends.ok.0 in
    omega arith

pub piece-requires-clause-order : goal.piece-requires-clause-order
piece-requires-clause-order c =
    let ends = c.self.inside.ends.items in
    let many = length-pieces c.self.inside.lits.items 0 ends in
    let same = ap (λ (v : Clauses). length v.clauses) c.self.view_is in
    let inside : c.args.id < length ends = (let here = c.requires in omega arith) in
    let start : c.start_of-start.result ≡ get_or (0 ∷ ends) c.args.id 0 = c.start_of-start.ensures ∙ ap (λ (xs : List ℕ). get_or (0 ∷ xs) c.args.id 0) c.deref.ensures.value in
    let end : c.index.result.now ≡ get_or ends c.args.id 0 = c.index.ensures ∙ get_or_default ends c.args.id c.index.result.now 0 inside in
    let both = end_at 0 ends (length c.self.inside.lits.items) c.args.id c.self.invariant.filled inside in
    omega arith

pub piece-requires-clause-inside : goal.piece-requires-clause-inside
piece-requires-clause-inside c =
    let ends = c.self.inside.ends.items in
    let many = length-pieces c.self.inside.lits.items 0 ends in
    let same = ap (λ (v : Clauses). length v.clauses) c.self.view_is in
    let inside : c.args.id < length ends = (let here = c.requires in omega arith) in
    let end : c.index.result.now ≡ get_or ends c.args.id 0 = c.index.ensures ∙ get_or_default ends c.args.id c.index.result.now 0 inside in
    let both = end_at 0 ends (length c.self.inside.lits.items) c.args.id c.self.invariant.filled inside in
    let list = ap (λ (xs : List ℤ). length xs) c.deref-2.ensures.value in
    omega arith

clause_is : (c : goal.After-piece) → c.piece.result.now ≡ get_or c.args.self.now.clauses c.args.id []
clause_is c =
    let ends = c.self.inside.ends.items in
    let lits = c.self.inside.lits.items in
    let id : ℕ = c.args.id in
    let many = length-pieces lits 0 ends in
    let same = ap (λ (v : Clauses). length v.clauses) c.self.view_is in
    let inside : c.args.id < length ends = (let here = c.requires in omega arith) in
    let start : c.start_of-start.result ≡ get_or (0 ∷ ends) id 0 = c.start_of-start.ensures ∙ ap (λ (xs : List ℕ). get_or (0 ∷ xs) id 0) c.deref.ensures.value in
    let end : c.index.result.now ≡ get_or ends id 0 = c.index.ensures ∙ get_or_default ends id c.index.result.now 0 inside in
    c.piece.ensures
    ∙ clause_at lits c.deref-2.result.now ends id c.start_of-start.result c.index.result.now inside c.deref-2.ensures.value start end
    ∙ ap (λ (v : Clauses). get_or v.clauses id []) c.self.view_is

pub returns-clause-clause : goal.returns-clause-clause
returns-clause-clause c = clause_is c

pub returns-clause-literals : goal.returns-clause-literals
returns-clause-literals c =
    let arena : IsArena c.args.self.now = subst IsArena c.self.view_is c.self.invariant.arena in
    subst (All IsLiteral) (sym (clause_is c)) (arena.literals c.args.id [] c.requires)

pub returns-clause-once : goal.returns-clause-once
returns-clause-once c =
    let arena : IsArena c.args.self.now = subst IsArena c.self.view_is c.self.invariant.arena in
    subst HasEachOnce (sym (clause_is c)) (arena.once c.args.id [] c.requires)

pub returns-clause-lemma : goal.returns-clause-lemma
returns-clause-lemma c after =
    let arena : IsArena c.args.self.now = subst IsArena c.self.view_is c.self.invariant.arena in
    subst HasDistinctVariables (sym (clause_is c)) (lemma_at c.args.self.now c.args.id c.requires arena after)
