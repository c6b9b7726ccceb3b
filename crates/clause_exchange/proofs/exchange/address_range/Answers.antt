use Rattle.std.proofs.Common.{rules, ap, ◌∙◌, arith}
use Rattle.std.proofs.lemmas.List.{length-map}
use Rattle.clause_exchange.specs.Posts.{addresses_of, queue_id, queue_ids}
use Rattle.clause_exchange.proofs.Places.{addressed, new_at}
use Rattle.clause_exchange.proofs.exchange.address_range.Goals as goal

pub loop-place-preserved : goal.loop-place-preserved
loop-place-preserved c =
    let long = length-map c.args.queues.now queue_id in
    ap addresses_of c.in_ok-push.ensures.items
    ∙ addressed c.loop-place.others.items c.in_ok-address.field-0 _
    (queue_ids c.args.queues.now) c.args.from c.loop-place.place
    (queue_id c.index-queues-place.result) (search rules) (omega arith)
    c.loop-place.invariant
    (new_at c.args.queues.now c.loop-place.place c.index-queues-place.result _
    c.index-queues-place.is c.in_ok-address.ensures)
