use Rattle.std.proofs.Common.{◌≡◌}
use Rattle.projected_decide.specs.Orders.{order_of}
use Rattle.projected_decide.proofs.making.in_order.Given as goal

abbrev pub invariant-loop-below : goal.invariant-loop-below
invariant-loop-below l = l.order.items ≡ order_of l.below l.shown
