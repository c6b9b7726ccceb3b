use Rattle.std.proofs.Common.{◌≡◌}
use Rattle.crossbeam_deque.specs.Handles.{view, IsPassOf, stealer_deque}
use Rattle.steal_pool.proofs.taking.steal_oldest.Given as goal

abbrev pub invariant-loop : goal.invariant-loop
invariant-loop g l = record {
  pass : IsPassOf (stealer_deque l.deque) l.pass;
  same : view l.pass ≡ view l.initial.pass;
}
