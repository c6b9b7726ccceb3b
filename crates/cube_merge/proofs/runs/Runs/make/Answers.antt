use Rattle.std.proofs.Common.{length, ap, ◌∙◌, arith}
use Rattle.cube_merge.specs.Parts.{all_names}
use Rattle.cube_merge.proofs.Gathered.{none_named}
use Rattle.cube_merge.proofs.runs.Runs.make.Goals as goal

pub invariant_of-result : goal.invariant_of-result
invariant_of-result c = record {
  empty = c.new.ensures.items;
  counted = ap (λ x. length (all_names x)) c.in_ok-empty_parts.ensures ∙ ap length (none_named c.args.parts);
  all = omega arith;
}
