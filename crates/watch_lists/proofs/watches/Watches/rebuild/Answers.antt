use Rattle.std.proofs.Common.{◌≡◌, ◌<◌, ap, sym, subst, ◌∙◌, length, arith, vec_len}
use Rattle.std.specs.List.{All}
use Rattle.std.proofs.lemmas.List.{length-map, length-replicate}
use Rattle.sat_terms.specs.CubeOrder.{key}
use Rattle.watch_lists.specs.declared.nodes.Node.{Node}
use Rattle.watch_lists.specs.Nodes.{stop, lists_of}
use Rattle.watch_lists.specs.Views.{ListsView}
use Rattle.watch_lists.proofs.AllLists.{count_is}
use Rattle.watch_lists.proofs.Seen.{Begins, begins_from, nothing_stands}
use Rattle.watch_lists.proofs.watches.Watches.rebuild.Goals as goal

-- the lists are empty
begins_it : (c : goal.After-watch_all-arg-2-1) → Begins c.self.inside.nodes.items c.fill.new.self.items (vec_len c.self.inside.heads)
begins_it c = begins_from c.self.inside.nodes.items c.fill.new.self.items (vec_len c.self.inside.heads) c.self.invariant.few (c.fill.ensures.items (λ y e. e))

pub watch_all-requires-clause-linked : goal.watch_all-requires-clause-linked
watch_all-requires-clause-linked c = (begins_it c).linked

pub watch_all-requires-clause-free : goal.watch_all-requires-clause-free
watch_all-requires-clause-free c n k =
    nothing_stands (lists_of c.self.inside.nodes.items c.fill.new.self.items) (vec_len c.self.inside.heads) k n (begins_it c).lists

pub watch_all-requires-clause-places : goal.watch_all-requires-clause-places
watch_all-requires-clause-places c =
    let same = ap (λ (v : ListsView). length v.lits) c.self.view_is in
    let long = length-map c.self.inside.nodes.items (λ (m : Node). m.lit) in
    let few = c.requires.places in
    omega arith

pub watch_all-requires-clause-listed : goal.watch_all-requires-clause-listed
watch_all-requires-clause-listed c =
    let count : length c.fill.new.self.items ≡ length c.args.self.now.lists =
    ap (λ xs. length xs) (c.fill.ensures.items (λ y e. e)) ∙ length-replicate (vec_len c.self.inside.heads) stop ∙ c.self.inside.heads.ok.0
    ∙ sym (count_is c.self.inside.nodes.items c.self.inside.heads.items) ∙ ap (λ (v : ListsView). length v.lists) c.self.view_is in
    subst (λ n. All (All (λ l. key l < n)) c.args.arena.now.clauses) (sym count) c.requires.listed

pub returns-clause-places : goal.returns-clause-places
returns-clause-places c =
    length-map c.watch_all.new.nodes.items (λ (m : Node). m.lit) ∙ c.watch_all.ensures.places
    ∙ sym (length-map c.self.inside.nodes.items (λ (m : Node). m.lit)) ∙ ap (λ (v : ListsView). length v.lits) c.self.view_is

pub returns-clause-lists : goal.returns-clause-lists
returns-clause-lists c =
    let count : length c.fill.new.self.items ≡ length c.args.self.now.lists =
    ap (λ xs. length xs) (c.fill.ensures.items (λ y e. e)) ∙ length-replicate (vec_len c.self.inside.heads) stop ∙ c.self.inside.heads.ok.0
    ∙ sym (count_is c.self.inside.nodes.items c.self.inside.heads.items) ∙ ap (λ (v : ListsView). length v.lists) c.self.view_is in
    count_is c.watch_all.new.nodes.items c.watch_all.new.heads.items ∙ c.watch_all.ensures.count ∙ count
