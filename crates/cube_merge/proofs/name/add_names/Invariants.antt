use Rattle.std.proofs.Common.{◌≡◌, ◌+◌, ◌≤◌, ◌++◌, length, vec_capacity}
use Rattle.cube_merge.specs.Names.{names_from}
use Rattle.cube_merge.proofs.name.add_names.Given as goal

abbrev pub invariant-loop-index : goal.invariant-loop-index
invariant-loop-index l = record {
  same : l.names.items ≡ l.initial.names.items ++ names_from l.place 0 l.index;
  room : length l.initial.names.items + l.count ≤ vec_capacity l.names;
}
