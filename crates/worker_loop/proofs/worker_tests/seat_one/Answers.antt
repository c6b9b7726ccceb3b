use Rattle.region_ledger.specs.Hands.{HandView}
use Rattle.live_engine.specs.Engines.{EngineView}
use Rattle.steal_pool.specs.Benches.{BenchView}
use Rattle.clause_exchange.specs.Posts.{PostView}
use Rattle.worker_loop.specs.Workers.{IsOffWork}
use Rattle.worker_loop.specs.declared.worker_tests.Seated.{Seated}
use Rattle.worker_loop.proofs.Lists.{one_more}
use Rattle.worker_loop.proofs.worker_tests.seat_one.Goals as goal

abbrev Member : Type 0
Member = Seated EngineView HandView BenchView PostView

pub returns : goal.returns
returns c =
    one_more
    (λ (m : Member). IsOffWork c.args.ledger.now m.pass.number m.pass m.engine)
    _ _ _ c.in_ok-push.ensures.items c.requires.members c.requires.member
