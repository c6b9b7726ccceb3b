use Rattle.std.proofs.Common.{◌≡◌, ◌-◌, ◌<◌, ◌∷◌, List, ℕ, ℤ, sym, ap, ap₂, ◌∙◌, subst, length, take, get_or, arith}
use Rattle.clause_arena.specs.Clauses.{Clauses}
use Rattle.clause_arena.specs.Layout.{pieces, IsLaidOut}
use Rattle.clause_arena.proofs.Pieces.{length-pieces, pieces_popped}
use Rattle.clause_arena.proofs.Laid.{laid_popped}
use Rattle.clause_arena.proofs.arena.Arena.pop.Goals as goal

pub invariant_of-self : goal.invariant_of-self
invariant_of-self c =
    let ends = c.self.inside.ends.items in
    let lits = c.self.inside.lits.items in
    let base = c.self.inside.base in
    let last = c.len-last.result - 1 in
    let start : c.start_of-start.result ≡ get_or (0 ∷ ends) last 0 = c.start_of-start.ensures ∙ ap (λ (xs : List ℕ). get_or (0 ∷ xs) last 0) c.deref.ensures.value in
    let some : base < length ends = (let above = c.requires in let same = ap (λ (v : Clauses). length v.clauses) c.self.view_is in let bases = ap (λ (v : Clauses). v.base) c.self.view_is in let count = length-pieces lits 0 ends in omega arith) in
    let many = c.self.inside.ends.ok.0 in
    let len = c.len-last.ensures in
    subst (λ (ls : List ℤ). IsLaidOut ls c.truncate.new.self.items base) (sym c.truncate-2.ensures.items)
    (subst (λ (es : List ℕ). IsLaidOut (take c.start_of-start.result lits) es base) (sym c.truncate.ensures.items)
    (laid_popped lits ends base last c.start_of-start.result c.self.invariant (omega arith) (omega arith) start))

pub returns-clause-clauses : goal.returns-clause-clauses
returns-clause-clauses c =
    let ends = c.self.inside.ends.items in
    let lits = c.self.inside.lits.items in
    let last : ℕ = c.len-last.result - 1 in
    let many = c.self.inside.ends.ok.0 in
    let len = c.len-last.ensures in
    let count = length-pieces lits 0 ends in
    let start : c.start_of-start.result ≡ get_or (0 ∷ ends) last 0 = c.start_of-start.ensures ∙ ap (λ (xs : List ℕ). get_or (0 ∷ xs) last 0) c.deref.ensures.value in
    let place : last ≡ length (pieces lits 0 ends) - 1 = omega arith in
    ap₂ (λ (ls : List ℤ) (es : List ℕ). pieces ls 0 es) c.truncate-2.ensures.items c.truncate.ensures.items
    ∙ pieces_popped lits ends last c.start_of-start.result c.self.invariant.filled (omega arith) start
    ∙ ap (λ n. take n (pieces lits 0 ends)) place
    ∙ ap (λ (v : Clauses). take (length v.clauses - 1) v.clauses) c.self.view_is
