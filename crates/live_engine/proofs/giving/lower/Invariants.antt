use Rattle.std.proofs.Common.{◌≡◌, ◌-◌, ◌++◌, map, take, drop}
use Rattle.live_engine.proofs.giving.lower.Given as goal

abbrev pub invariant-loop-count : goal.invariant-loop-count
invariant-loop-count l = l.count-items ≡ map (λ k. k - l.gone) (take l.count-index l.fn.counts.items) ++ drop l.count-index l.fn.counts.items
