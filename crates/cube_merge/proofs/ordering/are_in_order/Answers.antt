use Rattle.std.proofs.Common.{rules, not, is_lt}
use Rattle.std.proofs.lemmas.Fn.{always_returns_same}
use Rattle.cube_merge.specs.Names.{name_order}
use Rattle.cube_merge.proofs.Checked.{sorted_from_answer}
use Rattle.cube_merge.proofs.ordering.are_in_order.Goals as goal

pub returns : goal.returns
returns g c =
    let cube_of = g.S.Shelf.cube_of c.args.shelf.now in
    sorted_from_answer cube_of c.args.names.now c.is_sorted_by.result
    (c.is_sorted_by.ensures.cases (λ x y. not (is_lt (name_order cube_of y x))) (always_returns_same _ _ _ (λ a r f h. (search rules, search rules))))
