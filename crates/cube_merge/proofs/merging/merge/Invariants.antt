use Rattle.std.proofs.Common.{◌+◌, ◌≤◌, length, vec_capacity}
use Rattle.cube_merge.specs.Parts.{part_lists, all_names}
use Rattle.cube_merge.proofs.Merged.{Merges}
use Rattle.cube_merge.proofs.merging.merge.Given as goal

abbrev pub invariant-loop-at : goal.invariant-loop-at
invariant-loop-at g l = record {
  merges : Merges (g.S.Shelf.cube_of l.shelf) (part_lists l.initial.parts.items) (part_lists l.parts.items) l.merged.items;
  room : length l.merged.items + length (all_names (part_lists l.parts.items)) ≤ vec_capacity l.merged;
}

abbrev pub decreases-loop-at : goal.decreases-loop-at
decreases-loop-at g l = length (all_names (part_lists l.parts.items))
