use Rattle.std.proofs.Common.{◌≡◌, ◌<◌, ap, sym, subst, ◌∙◌, length, set, get_or, refl, length-set, rules}
use Rattle.std.specs.Prelude.{ℤ}
use Rattle.std.proofs.lemmas.List.{get_or_default}
use Rattle.std.proofs.lemmas.Int.{to_z-of_z}
use mir.Syntax.{w32}
use mir.Val.{SFits, of_z, to_z}
use Rattle.sat_terms.specs.CubeOrder.{key}
use Rattle.watch_lists.specs.declared.nodes.Node.{Node}
use Rattle.watch_lists.specs.Nodes.{stop}
use Rattle.watch_lists.proofs.AllLists.{head_inside}
use Rattle.watch_lists.proofs.Pushing.{Enters, enters_from}
use Rattle.watch_lists.proofs.nodes.push_front.Goals as goal

pub set_prev-requires-clause-inside : goal.set_prev-requires-clause-inside
set_prev-requires-clause-inside c =
    let nodes = c.args.nodes.now.items in
    let heads = c.args.heads.now.items in
    let fits : SFits w32 c.args.lit = search rules in
    let list : c.place_of-list.result ≡ key c.args.lit = c.place_of-list.ensures ∙ ap key (to_z-of_z w32 c.args.lit fits) in
    let head = c.index-head.ensures ∙ ap (λ j. get_or heads j c.index-head.result.now) list ∙ get_or_default heads (key c.args.lit) c.index-head.result.now stop c.requires.list in
    let long = length-set nodes c.args.place (record { next = c.index-head.result.now; prev = stop; lit = to_z w32 (of_z w32 c.args.lit) }) in
    subst (λ l. c.index-head.result.now < stop → c.index-head.result.now < l) (sym long)
    (subst (λ n. n < stop → n < length nodes) (sym head) (head_inside nodes heads (key c.args.lit) c.requires.linked))

enters_it : (c : goal.After-set_prev) → Enters c.args.nodes.now.items c.args.heads.now.items c.args.place c.args.lit c.set_prev.new.nodes.items (set c.args.heads.now.items c.place_of-list.result c.args.place)
enters_it c =
    let nodes = c.args.nodes.now.items in
    let heads = c.args.heads.now.items in
    let x = c.args.place in
    let fits : SFits w32 c.args.lit = search rules in
    let same = to_z-of_z w32 c.args.lit fits in
    let list : c.place_of-list.result ≡ key c.args.lit = c.place_of-list.ensures ∙ ap key same in
    let head = c.index-head.ensures ∙ ap (λ j. get_or heads j c.index-head.result.now) list ∙ get_or_default heads (key c.args.lit) c.index-head.result.now stop c.requires.list in
    let node : ℤ → Node = λ l. record { next = c.index-head.result.now; prev = stop; lit = l } in
    enters_from nodes heads x c.args.lit c.place_of-list.result c.index-head.result.now
    (set nodes x (node (to_z w32 (of_z w32 c.args.lit)))) c.set_prev.new.nodes.items (set heads c.place_of-list.result x)
    c.requires.linked c.requires.free c.requires.inside c.requires.list list head
    (ap (λ l. set nodes x (node l)) same) c.set_prev.ensures refl

pub returns-clause-linked : goal.returns-clause-linked
returns-clause-linked c = (enters_it c).linked

pub returns-clause-pushed : goal.returns-clause-pushed
returns-clause-pushed c = (enters_it c).pushed
