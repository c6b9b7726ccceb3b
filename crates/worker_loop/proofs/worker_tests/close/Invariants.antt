use Rattle.std.proofs.Common.{length}
use Rattle.std.specs.List.{All}
use Rattle.region_ledger.specs.Hands.{IsFreeHand}
use Rattle.worker_loop.specs.Workers.{IsOffWork}
use Rattle.worker_loop.proofs.worker_tests.close.Given as goal

abbrev pub invariant-loop-pass : goal.invariant-loop-pass
invariant-loop-pass g l = record {
  free : All (IsFreeHand l.ledger) l.passes.items;
  members : All (λ m. IsOffWork l.ledger m.pass.number m.pass m.engine) l.members.items;
}

abbrev pub decreases-loop-pass : goal.decreases-loop-pass
decreases-loop-pass g l = length l.members.items
