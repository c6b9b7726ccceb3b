use Rattle.std.proofs.Common.{take}
use Rattle.cube_merge.specs.Parts.{part_lists}
use Rattle.cube_merge.proofs.Merged.{IsLeading}
use Rattle.cube_merge.proofs.merging.greatest_last.Given as goal

abbrev pub invariant-loop-at : goal.invariant-loop-at
invariant-loop-at g l = IsLeading (g.S.Shelf.cube_of l.shelf) (take l.at (part_lists l.parts)) l.greatest
