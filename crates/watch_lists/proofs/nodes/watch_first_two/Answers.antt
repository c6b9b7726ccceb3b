use Rattle.std.proofs.Common.{◌≡◌, ◌≢◌, ◌+◌, ◌<◌, sym, subst, ◌∙◌, length, get_or, arith, rules}
use Rattle.std.specs.Prelude.{pos}
use Rattle.std.proofs.lemmas.Int.{to_z-of_z}
use mir.Syntax.{w32}
use mir.Val.{SFits}
use Rattle.sat_terms.specs.CubeOrder.{key}
use Rattle.watch_lists.specs.Nodes.{lists_view}
use Rattle.watch_lists.specs.Views.{IsFree}
use Rattle.watch_lists.proofs.AllLists.{count_is}
use Rattle.watch_lists.proofs.Seen.{free_pushed, pushed_count}
use Rattle.watch_lists.proofs.nodes.watch_first_two.Goals as goal

pub push_front-requires-then-lits-ge2-clause-list :
    goal.push_front-requires-then-lits-ge2-clause-list
push_front-requires-then-lits-ge2-clause-list c =
    let nodes = c.args.nodes.now.items in
    let heads = c.args.heads.now.items in
    let nodes' = c.push_front.new.nodes.items in
    let heads' = c.push_front.new.heads.items in
    let same : length heads' ≡ length heads =
    sym (count_is nodes' heads') ∙ pushed_count (lists_view nodes heads) (lists_view nodes' heads') c.args.place _ c.push_front.ensures.pushed ∙ count_is nodes heads in
    let two = c.if-lits-ge2.true in
    let second = get_or c.args.lits.now 1 (pos 0) in
    let fits : SFits w32 second = search rules in
    subst (λ l. key l < length heads') (sym (to_z-of_z w32 second fits))
    (subst (λ n. key second < n) (sym same) (c.requires.listed 1 (pos 0) (omega arith)))

pub push_front-requires-then-lits-ge2-clause-free :
    goal.push_front-requires-then-lits-ge2-clause-free
push_front-requires-then-lits-ge2-clause-free c =
    let other : c.args.place + 1 ≢ c.args.place = omega arith in
    subst (λ w. IsFree w (c.args.place + 1)) (sym c.push_front.ensures.pushed)
    (free_pushed (lists_view c.args.nodes.now.items c.args.heads.now.items) (c.args.place + 1) c.args.place _ c.requires.second other)
