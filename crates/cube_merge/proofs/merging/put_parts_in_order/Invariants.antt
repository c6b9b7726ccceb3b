use Rattle.std.proofs.Common.{◌≡◌, take, length}
use Rattle.std.specs.List.Sorted.{IsPermutation}
use Rattle.cube_merge.specs.Parts.{part_lists, all_names, AreInOrder}
use Rattle.cube_merge.proofs.merging.put_parts_in_order.Given as goal

abbrev pub invariant-loop-at : goal.invariant-loop-at
invariant-loop-at g l = record {
  long : length l.parts.items ≡ l.at-end;
  same : IsPermutation (all_names (part_lists l.initial.parts.items)) (all_names (part_lists l.parts.items));
  sorted : AreInOrder (g.S.Shelf.cube_of l.shelf) (take l.at (part_lists l.parts.items));
}
