use Rattle.std.proofs.Common.{◌≡◌, ◌<◌, length, subst, sym, ◌∙◌, arith}
use Rattle.std.proofs.lemmas.List.{get_or_default}
use Rattle.cube_check.proofs.runs.first_places.Goals as goal

pub returns : goal.returns
returns c =
    let places = c.loop-place.places.items in
    let many : length places ≡ c.args.count = omega arith in
    record {
      many = many;
      inside = λ k d less. subst (λ j. j < c.args.count) (sym (get_or_default places k d 0 less ∙ c.loop-place.invariant.each k (omega arith))) (omega arith);
      each = λ j less. let low : j < length places = omega arith in (j, low, get_or_default places j j 0 low ∙ c.loop-place.invariant.each j (omega arith));
    }
