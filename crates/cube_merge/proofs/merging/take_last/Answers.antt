use Rattle.std.proofs.Common.{refl, sym, ap, ◌∙◌}
use Rattle.cube_merge.proofs.Gathered.{lists_set, list_at}
use Rattle.cube_merge.proofs.merging.take_last.Goals as goal

pub returns : goal.returns
returns c =
    let old = c.args.parts.now.items in
    let part = c.pop.new.self in (
      part.items,
      list_at old c.args.at c.index_mut.result.now c.requires.inside ∙ ap (λ x. x.items) (sym c.index_mut.ensures.value) ∙ c.in-Some.ensures.items,
      lists_set old c.args.at part part.items refl,
    )
