use Rattle.std.proofs.Common.{set, ◌-◌, ◌<◌, length, ap, subst, ◌∙◌, get_or, arith}
use Rattle.std.proofs.lemmas.List.{get_or_default}
use Rattle.std.proofs.lemmas.List.Edits.{map_over_more}
use Rattle.live_engine.proofs.giving.lower.Goals as goal

pub loop-count-preserved : goal.loop-count-preserved
loop-count-preserved c =
    ap (λ y. set c.loop-count.count-items c.loop-count.count-index y) c.saturating_sub.ensures
    ∙ map_over_more (λ k. k - c.args.gone) c.args.counts.now.items c.loop-count.count-items c.loop-count.count-index
    (get_or c.loop-count.count-items c.loop-count.count-index 0)
    (subst (λ xs. c.loop-count.count-index < length xs) c.deref_mut-count-items.ensures.value c.loop-count-test.true)
    c.loop-count.invariant
    (get_or_default c.loop-count.count-items c.loop-count.count-index 0 (get_or c.loop-count.count-items c.loop-count.count-index 0)
    (let same = c.loop-count.auto.count-items in let inside = c.loop-count-test.true in omega arith))
