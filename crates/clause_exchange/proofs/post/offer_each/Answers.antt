use Rattle.std.proofs.Common.{rules}
use Rattle.clause_exchange.specs.Posts.{addresses_of}
use Rattle.clause_exchange.proofs.Offers.{left_over, offered}
use Rattle.clause_exchange.proofs.Mailed.{sends}
use Rattle.clause_exchange.proofs.post.offer_each.Goals as goal

pub offer_once-requires : goal.offer_once-requires
offer_once-requires c = λ n port v. sends n port v c.args.lemma

pub loop-place-preserved : goal.loop-place-preserved
loop-place-preserved c = record {
  done = offered c.args.lemma (addresses_of c.args.others.now) c.loop-place.others
      c.loop-place.place c.index-others-place.result _ (search rules)
      c.loop-place.invariant.left c.loop-place.invariant.done (search rules);
  left = left_over c.args.lemma (addresses_of c.args.others.now) c.loop-place.others
      c.loop-place.place c.index-others-place.result _ (search rules)
      c.loop-place.invariant.left;
}
