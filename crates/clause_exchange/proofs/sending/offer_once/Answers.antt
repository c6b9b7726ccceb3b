use Rattle.crossbeam_queue.specs.Passes.{view, ruled_capacity}
use Rattle.clause_exchange.proofs.sending.offer_once.Goals as goal

pub try_push_as-requires-clause-rule : goal.try_push_as-requires-clause-rule
try_push_as-requires-clause-rule g c =
    c.requires (ruled_capacity c.deref.result.now) c.args.inbox.now.pass.id
    (view c.args.inbox.now.pass)
