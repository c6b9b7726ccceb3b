use Rattle.std.proofs.Common.{◌≡◌, length}
use Rattle.watch_lists.specs.Linked.{IsLinked}
use Rattle.watch_lists.specs.Nodes.{lists_view}
use Rattle.watch_lists.proofs.Watching.{IsUpto}
use Rattle.watch_lists.proofs.watches.watch_all.Given as goal

abbrev pub invariant-loop-id : goal.invariant-loop-id
invariant-loop-id l = record {
  linked : IsLinked l.nodes.items l.heads.items;
  long : length l.nodes.items ≡ length l.initial.nodes.items;
  count : length l.heads.items ≡ length l.initial.heads.items;
  upto : IsUpto (lists_view l.nodes.items l.heads.items) l.arena.clauses l.id;
}
