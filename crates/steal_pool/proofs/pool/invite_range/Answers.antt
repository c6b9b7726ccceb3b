use Rattle.std.proofs.Common.{rules, ap, ◌∙◌}
use Rattle.steal_pool.specs.Stealing.{visits_of}
use Rattle.steal_pool.proofs.Pools.{unchanged, invited}
use Rattle.steal_pool.proofs.pool.invite_range.Goals as goal

pub loop-place-preserved : goal.loop-place-preserved
loop-place-preserved c = record {
  same = unchanged c.loop-place.benches c.args.benches.now c.loop-place.place c.invite.new.self
      c.index-benches-place.result c.loop-place.invariant.same (search rules);
  visits = ap visits_of c.in_ok-push.ensures.items
      ∙ invited c.loop-place.others.items c.in_ok-other.other _ c.loop-place.benches
      c.args.benches.now c.args.from c.loop-place.place c.index-benches-place.result
      c.loop-place.invariant.same (search rules) (search rules)
      c.loop-place.invariant.visits (search rules);
}
