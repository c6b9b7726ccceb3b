use Rattle.std.proofs.Common.{◌<◌, ℕ, length, pos, None, refl, sym, ap, subst, ◌∙◌, set, arith}
use Rattle.std.proofs.lemmas.List.{map-set, length-map}
use Rattle.chrono_trail.specs.Tables.{item_at}
use Rattle.chrono_trail.proofs.Tabled.{no_item, table_set}
use Rattle.chrono_trail.proofs.table.ItemTable.empty.Goals as goal

pub invariant_of-self : goal.invariant_of-self
invariant_of-self c =
    let items = c.self.inside.items.items in
    let v : ℕ = c.args.variable in
    let long = length-map items item_at in
    let inside : v < length items = (let test = subst (λ xs. v < length xs) (sym c.self.view_is) c.requires in omega arith) in
    table_set items c.self.inside.lits.items v no_item None (pos 0) c.self.invariant inside refl refl (λ none. refl)

pub returns : goal.returns
returns c =
    map-set item_at c.self.inside.items.items c.args.variable no_item ∙ ap (λ xs. set xs c.args.variable None) c.self.view_is
