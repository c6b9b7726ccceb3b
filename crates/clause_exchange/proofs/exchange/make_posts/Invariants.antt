use Rattle.std.proofs.Common.{◌≡◌, ℕ, ◌<◌, get_or, length, take}
use Rattle.clause_exchange.specs.Posts.{queue_ids, queues_of, IsPostAt}
use Rattle.clause_exchange.proofs.exchange.make_posts.Given as goal

abbrev pub invariant-loop-place : goal.invariant-loop-place
invariant-loop-place l = record {
  count : length l.posts.items ≡ l.place;
  queues : queues_of l.posts.items ≡ take l.place (queue_ids l.queues);
  posts : (k : ℕ) (d : _) → k < l.place →
      IsPostAt k (queue_ids l.queues) (get_or l.posts.items k d);
}
