use Rattle.std.proofs.Common.{◌≡◌, ◌<◌, ap, sym, subst, ◌∙◌, length, rules}
use Rattle.std.proofs.lemmas.List.{length-map}
use Rattle.sat_terms.specs.CubeOrder.{key}
use Rattle.watch_lists.specs.Places.{delete}
use Rattle.watch_lists.specs.Nodes.{lists_view, lists_of}
use Rattle.watch_lists.specs.Views.{ListsView, IsFree}
use Rattle.watch_lists.proofs.AllLists.{count_is}
use Rattle.watch_lists.proofs.Seen.{placed_is, free_taken, pushed_count}
use Rattle.watch_lists.proofs.watches.Watches.move_watch.Goals as goal

pub push_front-requires-clause-list : goal.push_front-requires-clause-list
push_front-requires-clause-list c =
    let nodes = c.self.inside.nodes.items in
    let heads = c.self.inside.heads.items in
    let count : length c.unlink.new.heads.items ≡ length c.args.self.now.lists =
    sym (count_is c.unlink.new.nodes.items c.unlink.new.heads.items)
    ∙ ap (λ (v : ListsView). length v.lists) c.unlink.ensures.taken
    ∙ length-map (lists_of nodes heads) (delete c.args.watch.place)
    ∙ ap (λ (v : ListsView). length v.lists) c.self.view_is in
    let to : key c.args.to < length c.unlink.new.heads.items = subst (λ n. key c.args.to < n) (sym count) c.requires.listed in
    search rules

pub push_front-requires-clause-free : goal.push_front-requires-clause-free
push_front-requires-clause-free c =
    subst (λ v. IsFree v c.args.watch.place) (sym c.unlink.ensures.taken)
    (free_taken (lists_view c.self.inside.nodes.items c.self.inside.heads.items) c.args.watch.place (λ k. (c.self.invariant.lists k).apart))

pub returns-clause-placed : goal.returns-clause-placed
returns-clause-placed c = placed_is c.push_front.new.nodes.items c.push_front.new.heads.items c.push_front.ensures.linked

pub returns-clause-lists : goal.returns-clause-lists
returns-clause-lists c =
    pushed_count (lists_view c.unlink.new.nodes.items c.unlink.new.heads.items) (lists_view c.push_front.new.nodes.items c.push_front.new.heads.items) c.args.watch.place _ c.push_front.ensures.pushed
    ∙ ap (λ (v : ListsView). length v.lists) c.unlink.ensures.taken
    ∙ length-map (lists_of c.self.inside.nodes.items c.self.inside.heads.items) (delete c.args.watch.place)
    ∙ ap (λ (v : ListsView). length v.lists) c.self.view_is
