use Rattle.std.proofs.Common.{◌≡◌, ◌-◌, ◌∷◌, List, ℕ, ap, ◌∙◌, length, get_or, arith}
use Rattle.clause_arena.specs.Clauses.{Clauses, has_room}
use Rattle.clause_arena.proofs.Pieces.{start_at}
use Rattle.clause_arena.proofs.Laid.{room_yes, room_no}
use Rattle.clause_arena.proofs.arena.Arena.has_room.Goals as goal

pub overflow_sub-literals : goal.overflow_sub-literals
overflow_sub-literals c =
    let ends = c.self.inside.ends.items in
    let lits = c.self.inside.lits.items in
    let base = c.self.inside.base in
    let start : c.start_of.result ≡ get_or (0 ∷ ends) base 0 = c.start_of.ensures ∙ ap (λ (xs : List ℕ). get_or (0 ∷ xs) base 0) c.deref.ensures.value in
    let below = start_at 0 ends (length lits) base c.self.invariant.filled c.self.invariant.based in
    let long = c.self.inside.lits.ok.0 in
    let len = c.len-2.ensures in
    omega arith

pub returns-then-lemmas-lt-LEMMAS : goal.returns-then-lemmas-lt-LEMMAS
returns-then-lemmas-lt-LEMMAS c =
    let ends = c.self.inside.ends.items in
    let lits = c.self.inside.lits.items in
    let base = c.self.inside.base in
    let start : c.start_of.result ≡ get_or (0 ∷ ends) base 0 = c.start_of.ensures ∙ ap (λ (xs : List ℕ). get_or (0 ∷ xs) base 0) c.deref.ensures.value in
    let long = c.self.inside.lits.ok.0 in
    let many = c.self.inside.ends.ok.0 in
    let len = c.len.ensures in
    let len_lits = c.len-2.ensures in
    room_yes lits ends base c.args.count (c.len.result - base) (c.len-2.result - c.start_of.result) c.self.invariant (omega arith) (omega arith) c.if-lemmas-lt-LEMMAS.true
    ∙ ap (λ (v : Clauses). has_room v c.args.count) c.self.view_is

pub returns-else-lemmas-lt-LEMMAS : goal.returns-else-lemmas-lt-LEMMAS
returns-else-lemmas-lt-LEMMAS c =
    let ends = c.self.inside.ends.items in
    let lits = c.self.inside.lits.items in
    let base = c.self.inside.base in
    let many = c.self.inside.ends.ok.0 in
    let len = c.len.ensures in
    room_no lits ends base c.args.count (c.len.result - base) c.self.invariant (omega arith) c.if-lemmas-lt-LEMMAS.false
    ∙ ap (λ (v : Clauses). has_room v c.args.count) c.self.view_is
