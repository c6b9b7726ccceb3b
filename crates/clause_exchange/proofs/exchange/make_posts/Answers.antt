use Rattle.std.proofs.Common.{rules, ap, sym, subst, get_or, ◌∙◌}
use Rattle.clause_exchange.specs.Posts.{queue_ids, queues_of, IsPostAt}
use Rattle.clause_exchange.proofs.Places.{gathered, seats}
use Rattle.clause_exchange.proofs.exchange.make_posts.Goals as goal

pub loop-place-preserved : goal.loop-place-preserved
loop-place-preserved c =
    let ids = queue_ids c.args.queues.now in
    record {
      count = search rules;
      queues = ap queues_of c.in_ok-push.ensures.items
          ∙ gathered c.loop-place.posts.items c.in_ok-post_at.field-0 ids c.loop-place.place
          c.loop-place.invariant.queues c.in_ok-post_at.ensures;
      posts = λ k d less.
          subst (λ ps. IsPostAt k ids (get_or ps k d)) (sym c.in_ok-push.ensures.items)
          (seats c.loop-place.posts.items c.in_ok-post_at.field-0 ids c.loop-place.place
          c.loop-place.invariant.count c.loop-place.invariant.posts
          c.in_ok-post_at.ensures k d less);
    }
