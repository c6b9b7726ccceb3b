use Rattle.std.proofs.Common.{◌≡◌, ℕ, ◌+◌, ◌<◌, ◌≤◌, [], Some, vec_len}
use Rattle.std.specs.Prelude.{slice_get, vec_capacity}
use Rattle.turn_cell.specs.Passes.{new_pass, cell_view}
use Rattle.turn_cell.proofs.Made.{root_view}
use Rattle.turn_cell.proofs.cell.deal.Given as goal

abbrev pub invariant-loop-number : goal.invariant-loop-number
invariant-loop-number g l = record {
  table : l.seat.table_id ≡ l.board.table_id;
  first : l.seat.id ≡ 0;
  view : l.seat.me ≡ (root_view (g.T.Journalled.fixed l.board.key.value.value) l.number, []);
  count : vec_len l.list + 1 ≡ l.number;
  room : l.passes ≤ vec_capacity l.list;
  made : (k : ℕ) → k + 1 < l.number → slice_get l.list.items k ≡ Some (new_pass (cell_view g.T.Journalled.fixed l.board.table_id l.board.key) (k + 1));
}
