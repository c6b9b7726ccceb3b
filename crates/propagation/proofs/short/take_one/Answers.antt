use Rattle.std.proofs.Common.{◌≡◌, ◌<◌, ℕ, true, List, [], ◌∷◌, length, get_or, filter, ℤ, pos, nat_abs, Some, sym, ap, subst, ◌∙◌, arith, rules}
use mir.Syntax.{w32}
use mir.Val.{SFits}
use Rattle.std.specs.List.{list_any}
use Rattle.sat_terms.proofs.Machine.{nat_abs-bits, same_from_bits, bits_from_same}
use Rattle.chrono_trail.specs.Items.{item_of, is_upto}
use Rattle.chrono_trail.specs.Clauses.{is_true, is_false, is_false_clause}
use Rattle.chrono_trail.proofs.Clauses.{false_from_other}
use Rattle.propagation.specs.Settled.{is_held}
use Rattle.propagation.proofs.Truths.{true_from_item}
use Rattle.propagation.proofs.Shorts.{sole, held_by, any_sole, all_sole}
use Rattle.propagation.proofs.short.take_one.Goals as goal

pub returns-in-Some-clause-outcome : goal.returns-in-Some-clause-outcome
returns-in-Some-clause-outcome c =
    let clauses = c.args.arena.now.clauses in
    let items = c.args.trail.now.items in
    let id : ℕ = c.args.id in
    let clause : List ℤ = c.lits-clause.result.now in
    let lit : ℤ = get_or clause 0 (pos 0) in
    let fits : SFits w32 lit = search rules in
    let clause_is : clause ≡ get_or clauses id [] = c.lits-clause.ensures.clause in
    let short : length clause < 2 = subst (λ xs. length xs < 2) (sym clause_is) c.requires.short in
    let some : 0 < length clause = search rules in
    let alone : clause ≡ lit ∷ [] = sole clause some short in
    let variable : c.unsigned_abs.result ≡ nat_abs lit = c.unsigned_abs.ensures.value ∙ nat_abs-bits lit fits in
    let item_is : item_of items (nat_abs lit) ≡ Some c.in-Some.item = ap (item_of items) (sym variable) ∙ sym c.item.ensures ∙ c.in-Some.is in
    let wrong = false_from_other items lit c.in-Some.item item_is (λ same. c.if-item-lit.true (bits_from_same c.in-Some.item.lit lit same)) in
    (c.requires.known, subst (λ xs. is_false_clause items xs ≡ true) (sym alone ∙ clause_is) (all_sole (is_false items) lit wrong))

pub returns-in-Some-2-clause-outcome : goal.returns-in-Some-2-clause-outcome
returns-in-Some-2-clause-outcome c =
    let clauses = c.args.arena.now.clauses in
    let items = c.args.trail.now.items in
    let id : ℕ = c.args.id in
    let clause : List ℤ = c.lits-clause.result.now in
    let lit : ℤ = get_or clause 0 (pos 0) in
    let fits : SFits w32 lit = search rules in
    let clause_is : clause ≡ get_or clauses id [] = c.lits-clause.ensures.clause in
    let short : length clause < 2 = subst (λ xs. length xs < 2) (sym clause_is) c.requires.short in
    let some : 0 < length clause = search rules in
    let alone : clause ≡ lit ∷ [] = sole clause some short in
    let variable : c.unsigned_abs.result ≡ nat_abs lit = c.unsigned_abs.ensures.value ∙ nat_abs-bits lit fits in
    let item_is : item_of items (nat_abs lit) ≡ Some c.in-Some.item = ap (item_of items) (sym variable) ∙ sym c.item.ensures ∙ c.in-Some.is in
    let item_fits : SFits w32 c.in-Some.item.lit = search rules in
    let same : c.in-Some.item.lit ≡ lit = same_from_bits c.in-Some.item.lit lit item_fits fits c.if-item-lit.false in
    subst (λ xs. list_any (is_true items) xs ≡ true) (sym alone ∙ clause_is) (any_sole (is_true items) lit (true_from_item items lit c.in-Some.item item_is (sym same)))

pub returns-in-Some-3-clause-outcome : goal.returns-in-Some-3-clause-outcome
returns-in-Some-3-clause-outcome c =
    let clauses = c.args.arena.now.clauses in
    let items = c.args.trail.now.items in
    let id : ℕ = c.args.id in
    let clause : List ℤ = c.lits-clause.result.now in
    let lit : ℤ = get_or clause 0 (pos 0) in
    let fits : SFits w32 lit = search rules in
    let clause_is : clause ≡ get_or clauses id [] = c.lits-clause.ensures.clause in
    let short : length clause < 2 = subst (λ xs. length xs < 2) (sym clause_is) c.requires.short in
    let some : 0 < length clause = search rules in
    let alone : clause ≡ lit ∷ [] = sole clause some short in
    let variable : c.unsigned_abs.result ≡ nat_abs lit = c.unsigned_abs.ensures.value ∙ nat_abs-bits lit fits in
    let item_is : item_of items (nat_abs lit) ≡ Some c.in-Some.item = ap (item_of items) (sym variable) ∙ sym c.item.ensures ∙ c.in-Some.is in
    let item_fits : SFits w32 c.in-Some.item.lit = search rules in
    let same : c.in-Some.item.lit ≡ lit = same_from_bits c.in-Some.item.lit lit item_fits fits c.if-item-lit.false in
    let low = c.if-item-gt0.false in
    subst (λ xs. is_held items xs ≡ true) (sym alone ∙ clause_is) (any_sole (is_true (filter (is_upto 0) items)) lit (held_by items lit c.in-Some.item item_is same (omega arith)))
