use Rattle.std.proofs.Common.{◌≡◌, true, take}
use Rattle.std.specs.List.{list_all}
use Rattle.projected_decide.specs.Orders.{is_set}
use Rattle.projected_decide.proofs.order.first_free.Given as goal

abbrev pub invariant-loop-place : goal.invariant-loop-place
invariant-loop-place l = list_all (is_set l.trail.items) (take l.place l.order) ≡ true
