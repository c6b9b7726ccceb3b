use Rattle.std.proofs.Common.{◌≡◌, ◌++◌, map}
use Rattle.std.specs.List.{slice_range}
use Rattle.clause_exchange.specs.Posts.{addresses_of, new_address, queue_ids}
use Rattle.clause_exchange.proofs.exchange.address_range.Given as goal

abbrev pub invariant-loop-place : goal.invariant-loop-place
invariant-loop-place l =
    addresses_of l.others.items ≡ addresses_of l.initial.others.items
    ++ map new_address (slice_range (queue_ids l.queues) l.from l.place)
