use Rattle.std.proofs.Common.{◌≡◌, ◌<◌, ◌++◌, false, length, map, vec_len}
use Rattle.std.specs.Prelude.{All}
use Rattle.turn_cell.specs.Passes.{IsPassOf}
use Rattle.turn_cell.specs.Idle.{claim_of}
use Rattle.turn_cell.proofs.cell.TurnCell.close.Given as goal

abbrev pub invariant-loop-pass : goal.invariant-loop-pass
invariant-loop-pass g l = record {
  table : l.seat.table_id ≡ l.table.shared.table_id;
  turn : l.seat.me.0.turn ≡ false;
  some_claim : 0 < length l.seat.me.0.claims;
  claims : map claim_of l.passes.items ++ l.seat.me.0.claims ≡ map claim_of l.fn.passes.items;
  own : All (IsPassOf l.fn.self) l.passes.items;
}

abbrev pub decreases-loop-pass : goal.decreases-loop-pass
decreases-loop-pass g l = vec_len l.passes
