use Rattle.std.proofs.Common.{rules, ◌≡◌, ◌<◌, length, map, nat_abs, Some, sym, ap, subst, ◌∙◌, set, arith}
use mir.Syntax.{w32}
use mir.Val.{SFits}
use Rattle.std.proofs.lemmas.Int.{to_z-of_z}
use Rattle.std.proofs.lemmas.List.{map-set, length-map}
use Rattle.sat_terms.proofs.Machine.{nat_abs-bits}
use Rattle.chrono_trail.specs.Tables.{item_at}
use Rattle.chrono_trail.proofs.Tabled.{stands_there, table_set}
use Rattle.chrono_trail.proofs.table.ItemTable.set.Goals as goal

pub invariant_of-self : goal.invariant_of-self
invariant_of-self c =
    let items = c.self.inside.items.items in
    let lit = c.args.item.lit in
    let fits : SFits w32 lit = search rules in
    let place : c.unsigned_abs-place.result ≡ nat_abs lit = c.unsigned_abs-place.ensures.value ∙ nat_abs-bits lit fits in
    let long = length-map items item_at in
    let inside : nat_abs lit < length items = (let test = subst (λ xs. nat_abs lit < length xs) (sym c.self.view_is) c.requires.place in omega arith) in
    let some = c.requires.named in
    let there = stands_there (length items) c.args.item c.self.invariant.small inside in
    table_set items c.self.inside.lits.items c.unsigned_abs-place.result c.args.item (Some c.args.item) _ c.self.invariant (omega arith) there (to_z-of_z w32 lit fits)
    (λ none. absurd (let zero = ap nat_abs none in omega arith))

pub returns : goal.returns
returns c =
    let items = c.self.inside.items.items in
    let lit = c.args.item.lit in
    let fits : SFits w32 lit = search rules in
    let place : c.unsigned_abs-place.result ≡ nat_abs lit = c.unsigned_abs-place.ensures.value ∙ nat_abs-bits lit fits in
    let long = length-map items item_at in
    let inside : nat_abs lit < length items = (let test = subst (λ xs. nat_abs lit < length xs) (sym c.self.view_is) c.requires.place in omega arith) in
    let there = stands_there (length items) c.args.item c.self.invariant.small inside in
    map-set item_at items c.unsigned_abs-place.result c.args.item
    ∙ ap (set (map item_at items) c.unsigned_abs-place.result) there
    ∙ ap (λ k. set (map item_at items) k (Some c.args.item)) place
    ∙ ap (λ xs. set xs (nat_abs lit) (Some c.args.item)) c.self.view_is
