use Rattle.std.proofs.Common.{◌≡◌, ◌≤◌, [], replicate, vec_len, vec_capacity}
use Rattle.cube_merge.specs.Parts.{part_lists}
use Rattle.cube_merge.proofs.runs.empty_parts.Given as goal

abbrev pub invariant-loop : goal.invariant-loop
invariant-loop l = record {
  same : part_lists l.parts.items ≡ replicate l.counter [];
  long : vec_len l.parts ≡ l.counter;
  room : l.count ≤ vec_capacity l.parts;
}
