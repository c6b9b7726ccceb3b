use Rattle.std.proofs.Common.{◌≡◌, ap, sym, subst, ◌∙◌, length, get_or, arith, rules}
use Rattle.std.proofs.lemmas.List.{get_or_default}
use Rattle.sat_terms.specs.CubeOrder.{key}
use Rattle.watch_lists.specs.Nodes.{stop}
use Rattle.watch_lists.specs.Views.{ListsView, list_of, head_of, IsPlaced}
use Rattle.watch_lists.proofs.AllLists.{count_is}
use Rattle.watch_lists.proofs.Seen.{first_is, first_stands, placed_is}
use Rattle.watch_lists.proofs.watches.Watches.first.Goals as goal

pub index-requires : goal.index-requires
index-requires c =
    let nodes = c.self.inside.nodes.items in
    let heads = c.self.inside.heads.items in
    let list : c.place_of.result ≡ key c.args.lit = search rules in
    let count : length heads ≡ length c.args.self.now.lists = sym (count_is nodes heads) ∙ ap (λ (v : ListsView). length v.lists) c.self.view_is in
    let below = c.requires.listed in
    let len = c.self.inside.heads.ok.0 in
    omega arith

first_it : (c : goal.After-watch_at) → c.watch_at.result ≡ head_of (list_of c.args.self.now (key c.args.lit))
first_it c =
    let nodes = c.self.inside.nodes.items in
    let heads = c.self.inside.heads.items in
    let list : c.place_of.result ≡ key c.args.lit = search rules in
    let count : length heads ≡ length c.args.self.now.lists = sym (count_is nodes heads) ∙ ap (λ (v : ListsView). length v.lists) c.self.view_is in
    let below = c.requires.listed in
    let head = c.index.ensures ∙ ap (λ k. get_or heads k c.index.result.now) list ∙ get_or_default heads (key c.args.lit) c.index.result.now stop (omega arith) in
    c.watch_at.ensures ∙ first_is nodes heads (key c.args.lit) c.index.result.now c.self.invariant head
    ∙ ap (λ (v : ListsView). head_of (list_of v (key c.args.lit))) c.self.view_is

pub returns-clause-first : goal.returns-clause-first
returns-clause-first c = first_it c

pub returns-clause-stands : goal.returns-clause-stands
returns-clause-stands c =
    let placed : IsPlaced c.args.self.now = subst IsPlaced c.self.view_is (placed_is c.self.inside.nodes.items c.self.inside.heads.items c.self.invariant) in
    first_stands c.args.self.now (key c.args.lit) c.watch_at.result placed (first_it c)
