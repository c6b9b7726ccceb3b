use Rattle.std.proofs.Common.{◌≡◌, ◌++◌, take, vec_capacity}
use Rattle.cube_merge.specs.Parts.{part_lists, all_names}
use Rattle.cube_merge.proofs.places.gather.Given as goal

abbrev pub invariant-loop-at : goal.invariant-loop-at
invariant-loop-at l = record {
  same : l.all.items ≡ l.initial.all.items ++ all_names (take l.at (part_lists l.parts));
  capacity : vec_capacity l.all ≡ vec_capacity l.initial.all;
}
