use Rattle.std.proofs.Common.{◌≡◌, ◌++◌, ◌∷◌, List, ℕ, ℤ, sym, ap, ap₂, subst, ◌∙◌, length, arith, [], length-append}
use Rattle.clause_arena.specs.Clauses.{Clauses, has_room}
use Rattle.clause_arena.specs.Layout.{pieces, IsLaidOut}
use Rattle.clause_arena.proofs.Laid.{room_there, laid_grown}
use Rattle.clause_arena.proofs.Pieces.{length-pieces, pieces_grow}
use Rattle.clause_arena.proofs.arena.Arena.add.Goals as goal

pub invariant_of-self-2 : goal.invariant_of-self-2
invariant_of-self-2 c =
    let lits = c.self.inside.lits.items in
    let ends = c.self.inside.ends.items in
    let base = c.self.inside.base in
    let new = c.args.lits.now in
    let room = room_there lits ends base (length new) c.self.invariant (ap (λ (v : Clauses). has_room v (length new)) c.self.view_is ∙ c.requires.room) in
    let grown : c.push.new.self.items ≡ ends ++ c.len.result ∷ [] = c.in-Ok.ensures.items ∙ ap (λ (es : List ℕ). es ++ c.len.result ∷ []) c.in_ok-reserve.ensures.items in
    let long = ap (λ (ls : List ℤ). length ls) c.in_ok-extend_from_slice.ensures.items in
    let parts = length-append lits new in
    let ok = c.extend_from_slice.new.self.ok.0 in
    let len = c.len.ensures in
    subst (λ (ls : List ℤ). IsLaidOut ls c.push.new.self.items base) (sym c.in_ok-extend_from_slice.ensures.items)
    (subst (λ (es : List ℕ). IsLaidOut (lits ++ new) es base) (sym grown)
    (laid_grown lits new ends base c.len.result c.self.invariant c.requires.literals c.requires.distinct room (omega arith)))

pub returns-clause-id : goal.returns-clause-id
returns-clause-id c =
    c.len-id.ensures ∙ c.self.inside.ends.ok.0 ∙ sym (length-pieces c.self.inside.lits.items 0 c.self.inside.ends.items)
    ∙ ap (λ (v : Clauses). length v.clauses) c.self.view_is

pub returns-clause-clauses : goal.returns-clause-clauses
returns-clause-clauses c =
    let lits = c.self.inside.lits.items in
    let ends = c.self.inside.ends.items in
    let new = c.args.lits.now in
    let grown : c.push.new.self.items ≡ ends ++ c.len.result ∷ [] = c.in-Ok.ensures.items ∙ ap (λ (es : List ℕ). es ++ c.len.result ∷ []) c.in_ok-reserve.ensures.items in
    let long = ap (λ (ls : List ℤ). length ls) c.in_ok-extend_from_slice.ensures.items in
    let parts = length-append lits new in
    let ok = c.extend_from_slice.new.self.ok.0 in
    let len = c.len.ensures in
    ap₂ (λ (ls : List ℤ) (es : List ℕ). pieces ls 0 es) c.in_ok-extend_from_slice.ensures.items grown
    ∙ pieces_grow lits new ends c.len.result c.self.invariant.filled (omega arith)
    ∙ ap (λ (v : Clauses). v.clauses ++ new ∷ []) c.self.view_is
