use Rattle.std.proofs.Common.{◌≡◌, ◌<◌, ◌≤◌, ap, sym, subst, ◌∙◌, length, length-set, rules}
use Rattle.std.proofs.lemmas.List.{get_or_default}
use Rattle.sat_terms.specs.CubeOrder.{key}
use Rattle.watch_lists.specs.Nodes.{node_at, idle, stop}
use Rattle.watch_lists.proofs.AllLists.{stands_at, before_inside, after_inside}
use Rattle.watch_lists.proofs.Unlinking.{has_head, Leaves, leaves_from}
use Rattle.watch_lists.proofs.nodes.unlink.Goals as goal

pub set_next-requires-clause-inside : goal.set_next-requires-clause-inside
set_next-requires-clause-inside c =
    let nodes = c.args.nodes.now.items in
    let k = key (node_at nodes c.args.place).lit in
    let m = (c.requires.linked.lists k).members c.args.place (stands_at nodes c.args.heads.now.items c.args.place c.requires.stands) in
    let is : c.index-node.result.now ≡ node_at nodes c.args.place = c.index-node.ensures ∙ get_or_default nodes c.args.place c.index-node.result.now idle m.inside in
    subst (λ n. n.prev < stop → n.prev < length nodes) (sym is)
    (before_inside nodes c.args.heads.now.items c.args.place c.requires.linked (stands_at nodes c.args.heads.now.items c.args.place c.requires.stands))

pub set_next-requires-clause-list : goal.set_next-requires-clause-list
set_next-requires-clause-list c =
    let nodes = c.args.nodes.now.items in
    let heads = c.args.heads.now.items in
    let k = key (node_at nodes c.args.place).lit in
    let m = (c.requires.linked.lists k).members c.args.place (stands_at nodes c.args.heads.now.items c.args.place c.requires.stands) in
    let is : c.index-node.result.now ≡ node_at nodes c.args.place = c.index-node.ensures ∙ get_or_default nodes c.args.place c.index-node.result.now idle m.inside in
    let list : c.place_of-list.result ≡ key c.index-node.result.now.lit = search rules in
    subst (λ n. n < length heads) (sym (list ∙ ap (λ n. key n.lit) is))
    (has_head nodes heads k c.args.place c.requires.linked (stands_at nodes c.args.heads.now.items c.args.place c.requires.stands))

pub set_prev-requires-clause-inside : goal.set_prev-requires-clause-inside
set_prev-requires-clause-inside c =
    let nodes = c.args.nodes.now.items in
    let k = key (node_at nodes c.args.place).lit in
    let m = (c.requires.linked.lists k).members c.args.place (stands_at nodes c.args.heads.now.items c.args.place c.requires.stands) in
    let is : c.index-node.result.now ≡ node_at nodes c.args.place = c.index-node.ensures ∙ get_or_default nodes c.args.place c.index-node.result.now idle m.inside in
    let long : length c.set_next.new.nodes.items ≡ length nodes = ap (λ ns. length ns) c.set_next.ensures.nodes ∙ length-set nodes c.index-node.result.now.prev (record (node_at nodes c.index-node.result.now.prev) { next = c.index-node.result.now.next }) in
    subst (λ l. c.index-node.result.now.next < stop → c.index-node.result.now.next < l) (sym long)
    (subst (λ n. n.next < stop → n.next < length nodes) (sym is)
    (after_inside nodes c.args.heads.now.items c.args.place c.requires.linked (stands_at nodes c.args.heads.now.items c.args.place c.requires.stands)))

pub set_prev-requires-clause-few : goal.set_prev-requires-clause-few
set_prev-requires-clause-few c =
    let nodes = c.args.nodes.now.items in
    let long : length c.set_next.new.nodes.items ≡ length nodes = ap (λ ns. length ns) c.set_next.ensures.nodes ∙ length-set nodes c.index-node.result.now.prev (record (node_at nodes c.index-node.result.now.prev) { next = c.index-node.result.now.next }) in
    subst (λ l. l ≤ stop) (sym long) c.requires.linked.few

leaves_it : (c : goal.After-set_prev) → Leaves c.args.nodes.now.items c.args.heads.now.items c.args.place c.set_prev.new.nodes.items c.set_next.new.heads.items
leaves_it c =
    let nodes = c.args.nodes.now.items in
    let k = key (node_at nodes c.args.place).lit in
    let m = (c.requires.linked.lists k).members c.args.place (stands_at nodes c.args.heads.now.items c.args.place c.requires.stands) in
    let is : c.index-node.result.now ≡ node_at nodes c.args.place = c.index-node.ensures ∙ get_or_default nodes c.args.place c.index-node.result.now idle m.inside in
    let list : c.place_of-list.result ≡ key c.index-node.result.now.lit = search rules in
    leaves_from nodes c.args.heads.now.items c.args.place c.index-node.result.now c.place_of-list.result
    c.set_next.new.nodes.items c.set_prev.new.nodes.items c.set_next.new.heads.items
    c.requires.linked c.requires.stands is list c.set_next.ensures.nodes c.set_next.ensures.heads c.set_prev.ensures

pub returns-clause-linked : goal.returns-clause-linked
returns-clause-linked c = (leaves_it c).linked

pub returns-clause-taken : goal.returns-clause-taken
returns-clause-taken c = (leaves_it c).taken
