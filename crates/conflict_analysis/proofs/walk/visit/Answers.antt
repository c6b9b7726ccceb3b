use Rattle.std.proofs.Common.{◌≡◌, ℕ, ℤ, pos, neg_ℤ, true, false, nat_abs, List, [], ◌∷◌, ◌++◌, Some, None, ◌-◌, ◌<◌, ◌^◌, length, get_or, set, sym, ap, subst, ◌∙◌, rules, arith}
use mir.Syntax.{w32}
use mir.Val.{SFits, to_z, of_z}
use Rattle.std.proofs.lemmas.Int.{to_z-of_z}
use Rattle.std.proofs.lemmas.List.{get_or_read}
use Rattle.sat_terms.proofs.Machine.{nat_abs-bits}
use Rattle.chrono_trail.specs.declared.item.Item.{Item}
use Rattle.chrono_trail.specs.declared.item.Kind.TheVariants.{Assumed}
use Rattle.chrono_trail.specs.Items.{reason_id}
use Rattle.conflict_analysis.specs.Marks.{is_marked}
use Rattle.conflict_analysis.specs.Walks.{IsWalk}
use Rattle.conflict_analysis.proofs.Bits.{negated}
use Rattle.conflict_analysis.proofs.Counts.{AreMarked}
use Rattle.conflict_analysis.proofs.Places.{reason_at}
use Rattle.conflict_analysis.proofs.Visits.{named_here, skips, resolves, writes}
use Rattle.conflict_analysis.proofs.walk.visit.Goals as goal

pub returns-then-not-index-clause-walk : goal.returns-then-not-index-clause-walk
returns-then-not-index-clause-walk c =
    let clauses = c.args.arena.now.clauses in
    let trail = c.args.trail.now in
    let items : List Item = trail.items in
    let marks = c.args.marks.now.items in
    let at : ℕ = c.args.at in
    let d : Item = record { lit = pos 0; level = 0; kind = Assumed } in
    let fits : SFits w32 (get_or c.items.result.now at d).lit = search rules in
    let place : c.unsigned_abs-variable.result ≡ nat_abs (get_or items at d).lit =
    c.unsigned_abs-variable.ensures.value ∙ nat_abs-bits (get_or c.items.result.now at d).lit fits ∙ ap (λ xs. nat_abs (get_or xs at d).lit) c.items.ensures.items in
    let read : false ≡ is_marked marks c.unsigned_abs-variable.result = subst (λ x. x ≡ get_or marks c.unsigned_abs-variable.result x) c.if-not-index.true c.index.ensures in
    skips clauses trail.variables items trail.level c.args.id at c.requires.walkable marks c.args.lits.now.items c.args.left c.requires.walk d
    (sym (read ∙ ap (is_marked marks) place))

pub lits-requires : goal.lits-requires
lits-requires c =
    let clauses = c.args.arena.now.clauses in
    let items = c.args.trail.now.items in
    let at : ℕ = c.args.at in
    let d : Item = record { lit = pos 0; level = 0; kind = Assumed } in
    let inside : at < length items = (let within = c.requires.walk.inside in omega arith) in
    let stands : reason_id (get_or items at d).kind ≡ Some c.in-Some.reason = sym (c.in-Some.ensures ∙ ap (λ xs. reason_id (get_or xs at d).kind) c.items.ensures.items) in
    (reason_at clauses [] items at d inside c.requires.walkable.reasoned c.in-Some.reason stands).inside

pub returns-in-Some-clause-walk : goal.returns-in-Some-clause-walk
returns-in-Some-clause-walk c =
    let clauses = c.args.arena.now.clauses in
    let trail = c.args.trail.now in
    let items : List Item = trail.items in
    let marks = c.args.marks.now.items in
    let lits = c.args.lits.now.items in
    let new = c.mark_others.new.marks.items in
    let at : ℕ = c.args.at in
    let d : Item = record { lit = pos 0; level = 0; kind = Assumed } in
    let variable : ℕ = c.unsigned_abs-variable.result in
    let fits : SFits w32 (get_or c.items.result.now at d).lit = search rules in
    let same : get_or c.items.result.now at d ≡ get_or items at d = ap (λ xs. get_or xs at d) c.items.ensures.items in
    let place : variable ≡ nat_abs (get_or items at d).lit =
    c.unsigned_abs-variable.ensures.value ∙ nat_abs-bits (get_or c.items.result.now at d).lit fits ∙ ap (λ (i : Item). nat_abs i.lit) same in
    let named = named_here clauses trail.variables items trail.level c.args.id at c.requires.walkable marks lits c.args.left c.requires.walk d in
    let within : variable < length marks = (let low = named.1 in let long = c.requires.places in omega arith) in
    let read = get_or_read marks variable c.index.result.now within c.index.ensures false in
    let on : is_marked marks (nat_abs (get_or items at d).lit) ≡ true = ap (is_marked marks) (sym place) ∙ sym read ∙ c.if-not-index.false in
    let stands : reason_id (get_or items at d).kind ≡ Some c.in-Some.reason = sym (c.in-Some.ensures ∙ ap (λ (i : Item). reason_id i.kind) same) in
    let told : AreMarked (set marks variable false) (to_z w32 (of_z w32 (get_or c.items.result.now at d).lit)) c.lits.result.now new = c.mark_others.ensures.marks in
    let by_literal : AreMarked (set marks variable false) (get_or items at d).lit c.lits.result.now new =
    subst (λ z. AreMarked (set marks variable false) z c.lits.result.now new) (to_z-of_z w32 (get_or c.items.result.now at d).lit fits ∙ ap (λ (i : Item). i.lit) same) told in
    let by_clause : AreMarked (set marks variable false) (get_or items at d).lit (get_or clauses c.in-Some.reason []) new =
    subst (λ cl. AreMarked (set marks variable false) (get_or items at d).lit cl new) c.lits.ensures.clause by_literal in
    let by_place : AreMarked (set marks (nat_abs (get_or items at d).lit) false) (get_or items at d).lit (get_or clauses c.in-Some.reason []) new =
    subst (λ k. AreMarked (set marks k false) (get_or items at d).lit (get_or clauses c.in-Some.reason []) new) place by_clause in
    resolves clauses trail.variables items trail.level c.args.id at c.requires.walkable marks lits c.args.left c.requires.walk d
    c.requires.places on c.in-Some.reason new c.mark_others.result stands by_place c.mark_others.ensures.counted

pub returns-in-None-clause-walk : goal.returns-in-None-clause-walk
returns-in-None-clause-walk c =
    let clauses = c.args.arena.now.clauses in
    let trail = c.args.trail.now in
    let items : List Item = trail.items in
    let marks = c.args.marks.now.items in
    let lits = c.args.lits.now.items in
    let at : ℕ = c.args.at in
    let d : Item = record { lit = pos 0; level = 0; kind = Assumed } in
    let variable : ℕ = c.unsigned_abs-variable.result in
    let read_lit : ℤ = (get_or c.items.result.now at d).lit in
    let fits : SFits w32 (get_or c.items.result.now at d).lit = search rules in
    let same : get_or c.items.result.now at d ≡ get_or items at d = ap (λ xs. get_or xs at d) c.items.ensures.items in
    let place : variable ≡ nat_abs (get_or items at d).lit =
    c.unsigned_abs-variable.ensures.value ∙ nat_abs-bits (get_or c.items.result.now at d).lit fits ∙ ap (λ (i : Item). nat_abs i.lit) same in
    let named = named_here clauses trail.variables items trail.level c.args.id at c.requires.walkable marks lits c.args.left c.requires.walk d in
    let within : variable < length marks = (let low = named.1 in let long = c.requires.places in omega arith) in
    let read = get_or_read marks variable c.index.result.now within c.index.ensures false in
    let on : is_marked marks (nat_abs (get_or items at d).lit) ≡ true = ap (is_marked marks) (sym place) ∙ sym read ∙ c.if-not-index.false in
    let stands : reason_id (get_or items at d).kind ≡ None = sym (c.in-None.ensures ∙ ap (λ (i : Item). reason_id i.kind) same) in
    let small : nat_abs (get_or c.items.result.now at d).lit < 2 ^ 31 = (
    let low = named.1 in
    let few = c.requires.walkable.trail.small in
    let equal = ap (λ (i : Item). nat_abs i.lit) same in
    omega arith) in
    let grown : c.push_reserved.new.self.items ≡ lits ++ neg_ℤ (get_or items at d).lit ∷ [] =
    c.push_reserved.ensures.items ∙ ap (λ (z : ℤ). lits ++ z ∷ []) (negated (get_or c.items.result.now at d).lit fits small ∙ ap (λ (i : Item). neg_ℤ i.lit) same) in
    let done = writes clauses trail.variables items trail.level c.args.id at c.requires.walkable marks lits c.args.left c.requires.walk d c.requires.places on stands in
    subst (λ xs. IsWalk clauses trail.variables items c.args.id at (set marks variable false) xs (c.args.left - 1)) (sym grown)
    (subst (λ k. IsWalk clauses trail.variables items c.args.id at (set marks k false) (lits ++ neg_ℤ (get_or items at d).lit ∷ []) (c.args.left - 1)) (sym place) done)
