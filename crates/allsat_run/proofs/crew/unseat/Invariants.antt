use Rattle.std.proofs.Common.{◌≡◌, ◌+◌, ◌≤◌, length, vec_capacity}
use Rattle.std.specs.List.{All}
use Rattle.region_ledger.specs.Hands.{IsFreeHand}
use Rattle.allsat_run.specs.Crews.{IsSeated}
use Rattle.allsat_run.proofs.crew.unseat.Given as goal

abbrev pub invariant-loop-worker : goal.invariant-loop-worker
invariant-loop-worker l = record {
  ready : All (IsSeated l.ledger) l.members.items;
  free : All (IsFreeHand l.ledger) l.passes.items;
  left : length l.members.items + l._worker ≡ length l.initial.members.items;
  all : length l.passes.items + length l.members.items ≡ length l.fn.members.items;
  room : length l.fn.members.items ≤ vec_capacity l.passes;
}
