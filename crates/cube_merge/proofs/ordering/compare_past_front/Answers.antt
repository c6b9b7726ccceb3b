use Rattle.std.proofs.Common.{◌-◌, length, take, drop, ap, ◌∙◌}
use Rattle.std.proofs.lemmas.List.{take_rest}
use Rattle.sat_terms.specs.CubeOrder.{cube_order}
use Rattle.cube_merge.proofs.Fronts.{past_front}
use Rattle.cube_merge.proofs.ordering.compare_past_front.Goals as goal

pub returns : goal.returns
returns c =
    let one = c.args.c.now in
    let other = c.args.d.now in
    let k = c.shared_front-shared.result in
    c.compare.ensures
    ∙ ap (λ l. cube_order l (take (length other - k) (drop k other))) (take_rest one k)
    ∙ ap (cube_order (drop k one)) (take_rest other k)
    ∙ past_front k one other c.shared_front-shared.ensures.within c.shared_front-shared.ensures.within_other c.shared_front-shared.ensures.same
