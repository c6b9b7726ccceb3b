use Rattle.std.proofs.Common.{◌<◌, length, ◌∙◌}
use Rattle.std.proofs.lemmas.List.Sorted.{All-permutation, Contains-permutation, length_permutation}
use Rattle.cube_check.proofs.runs.sorted_places.Goals as goal

pub returns : goal.returns
returns c =
    let before = c.in_ok-places.ensures in
    let moved = c.sort_unstable_by.ensures.permutation in
    record {
      many = length_permutation _ _ moved ∙ before.many;
      inside = All-permutation (λ j. j < length c.args.met.now) _ _ moved before.inside;
      each = λ j less. Contains-permutation _ _ j moved (before.each j less);
    }
