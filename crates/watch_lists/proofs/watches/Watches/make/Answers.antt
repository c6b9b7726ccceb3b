use Rattle.std.proofs.Common.{◌≡◌, ◌+◌, ◌*◌, ◌∙◌, length, replicate, arith, rules}
use Rattle.watch_lists.specs.Nodes.{stop, lists_of}
use Rattle.watch_lists.proofs.AllLists.{count_is}
use Rattle.watch_lists.proofs.Seen.{Begins, begins_from, nothing_stands}
use Rattle.watch_lists.proofs.watches.Watches.make.Goals as goal

heads_are : (c : goal.After-heads-2-1) → c.in_ok-heads.heads.items ≡ replicate (2 * (c.args.variables + 1)) stop
heads_are c = search rules

-- the lists are empty
begins_it : (c : goal.After-heads-2-1) → Begins c.in_ok-nodes.nodes.items c.in_ok-heads.heads.items (2 * (c.args.variables + 1))
begins_it c =
    let few = c.len.ensures.few in
    let len = c.len.ensures.length in
    let long : length c.in_ok-nodes.nodes.items ≡ 2 * c.len.result = search rules in
    begins_from c.in_ok-nodes.nodes.items c.in_ok-heads.heads.items (2 * (c.args.variables + 1)) (omega arith) (heads_are c)

pub watch_all-requires-clause-linked : goal.watch_all-requires-clause-linked
watch_all-requires-clause-linked c = (begins_it c).linked

pub watch_all-requires-clause-free : goal.watch_all-requires-clause-free
watch_all-requires-clause-free c n k =
    nothing_stands (lists_of c.in_ok-nodes.nodes.items c.in_ok-heads.heads.items) (2 * (c.args.variables + 1)) k n (begins_it c).lists

pub returns-clause-lists : goal.returns-clause-lists
returns-clause-lists c =
    let long : length c.in_ok-heads.heads.items ≡ 2 * (c.args.variables + 1) = search rules in
    count_is c.watch_all.new.nodes.items c.watch_all.new.heads.items ∙ c.watch_all.ensures.count ∙ long
