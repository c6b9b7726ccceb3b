use Rattle.std.proofs.Common.{◌≡◌, ◌+◌, ◌≤◌, length, vec_capacity}
use Rattle.std.specs.List.{All}
use Rattle.region_ledger.specs.Hands.{subject_of, IsFreeHand}
use Rattle.allsat_run.specs.Crews.{IsTool, IsSeated}
use Rattle.allsat_run.proofs.crew.seat.Given as goal

abbrev pub invariant-loop-worker : goal.invariant-loop-worker
invariant-loop-worker l = record {
  ready : All (IsSeated l.ledger) l.members.items;
  tools : All (IsTool (subject_of l.ledger)) l.tools.items;
  free : All (IsFreeHand l.ledger) l.passes.items;
  even : length l.tools.items ≡ length l.passes.items;
  all : length l.members.items + length l.tools.items ≡ length l.initial.tools.items;
  count : length l.members.items ≡ l._worker;
  room : length l.initial.tools.items ≤ vec_capacity l.members;
  keeps : vec_capacity l.initial.passes ≤ vec_capacity l.passes;
}
