use Rattle.std.proofs.Common.{◌≡◌, ◌++◌, take, vec_capacity}
use Rattle.cube_merge.proofs.places.add_copies.Given as goal

abbrev pub invariant-loop-at : goal.invariant-loop-at
invariant-loop-at l = record {
  same : l.all.items ≡ l.initial.all.items ++ take l.at l.names;
  capacity : vec_capacity l.all ≡ vec_capacity l.initial.all;
}
