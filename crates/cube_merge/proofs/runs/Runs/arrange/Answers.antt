use Rattle.std.proofs.Common.{subst, arith}
use Rattle.std.specs.List.Sorted.{IsPermutation}
use Rattle.std.proofs.lemmas.List.Sorted.{IsPermutation-trans, length_permutation}
use Rattle.cube_merge.specs.Parts.{part_lists, all_names}
use Rattle.cube_merge.proofs.runs.Runs.arrange.Goals as goal

pub merge-requires-clause-room : goal.merge-requires-clause-room
merge-requires-clause-room g c =
    let same = length_permutation (all_names (part_lists c.self.inside.parts.items)) (all_names (part_lists c.put_parts_in_order.new.parts.items)) c.put_parts_in_order.ensures.same in
    let count = c.self.invariant.counted in
    let room = c.self.invariant.all in
    omega arith

pub returns-clause-same : goal.returns-clause-same
returns-clause-same g c =
    let parts = part_lists c.self.inside.parts.items in
    let sorted = part_lists c.put_parts_in_order.new.parts.items in
    subst (λ x. IsPermutation (all_names x) c.reverse.new.self.items) c.self.view_is
    (IsPermutation-trans (all_names parts) (all_names sorted) c.reverse.new.self.items c.put_parts_in_order.ensures.same
    (IsPermutation-trans (all_names sorted) c.merge.new.merged.items c.reverse.new.self.items c.merge.ensures.same c.reverse.ensures.permutation))
