use Rattle.std.proofs.Common.{◌≡◌, length}
use Rattle.std.specs.List.{All}
use Rattle.clause_exchange.specs.Posts.{queue_ids}
use Rattle.clause_exchange.proofs.exchange.make_queues.Given as goal

abbrev pub invariant-loop : goal.invariant-loop
invariant-loop l = record {
  count : length l.queues.items ≡ l.counter;
  room : All (λ d. d.slots ≡ 256) (queue_ids l.queues.items);
}
