use Rattle.std.proofs.Common.{rules, refl}
use Rattle.steal_pool.proofs.Visits.{stolen, kept, learned}
use Rattle.steal_pool.proofs.taking.steal_from.Goals as goal

pub returns-in-Some-clause-taken : goal.returns-in-Some-clause-taken
returns-in-Some-clause-taken g c =
    stolen g.M.Outcome.then _ c.loop-place.others c.args.others.now c.loop-place.place
    c.index-others-place.result _ c.loop-place.invariant.same (search rules) refl (search rules)

pub loop-place-preserved : goal.loop-place-preserved
loop-place-preserved g c = record {
  same = kept c.loop-place.others c.args.others.now c.loop-place.place
      c.index-others-place.result _ c.loop-place.invariant.same refl (search rules);
  empty = learned g.M.Outcome.empty c.loop-place.others c.args.others.now c.loop-place.place
      c.index-others-place.result c.loop-place.invariant.same (search rules)
      c.loop-place.invariant.empty (search rules);
}
