use Rattle.std.proofs.Common.{◌≡◌}
use Rattle.turn_cell.specs.Steps.{IsSameSeat}
use Rattle.turn_cell.proofs.steps.wait_for.Given as goal

abbrev pub invariant-loop : goal.invariant-loop
invariant-loop g l = (goal.iterator-loop g).can_next l.iterator' × (goal.iterator-loop g).is_finite l.iterator' × (IsSameSeat l.initial.seat l.seat × (l.seat.me ≡ l.initial.seat.me))
