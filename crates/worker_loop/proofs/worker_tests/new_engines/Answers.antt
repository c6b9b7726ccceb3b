use Rattle.std.proofs.Common.{rules, ◌≡◌, None}
use Rattle.live_engine.specs.Engines.{EngineView}
use Rattle.worker_loop.proofs.Lists.{one_more}
use Rattle.worker_loop.proofs.worker_tests.new_engines.Goals as goal

pub loop-preserved : goal.loop-preserved
loop-preserved c =
    one_more (λ (e : EngineView). (e.subject ≡ c.args.subject.now) × (e.job ≡ None)) _ _ _
    c.in_ok-push.ensures.items c.loop.invariant (search rules, search rules)
