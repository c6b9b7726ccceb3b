use Rattle.std.proofs.Common.{rules, ◌≡◌, get_or, pos, of_z, to_z, w32}
use Rattle.cube_text.proofs.Handing.{Hands-more, Hands-along}
use Rattle.drill.proofs.Choices.{Hands-none, chosen_more, chosen_all}
use Rattle.drill.proofs.summary.put_chosen.Goals as goal

pub loop-lit-init : goal.loop-lit-init
loop-lit-init g c = Hands-none _ _

pub loop-lit-preserved : goal.loop-lit-preserved
loop-lit-preserved g c =
    let cubes = g.L.CubeList.cubes c.args.cubes.now in
    let same : to_z w32 (of_z w32 (get_or c.args.lits.now c.loop-lit.lit-index (pos 0))) ≡ get_or c.args.lits.now c.loop-lit.lit-index (pos 0) = search rules in
    Hands-along _ _ _ _ _ _ (chosen_more cubes c.args.lits.now c.loop-lit.lit-index _ c.loop-lit-test.true same)
    (Hands-more _ _ _ _ _ _ _ _ c.loop-lit.invariant c.put_if_fixed.ensures)

pub returns : goal.returns
returns g c =
    Hands-along _ _ _ _ _ _ (chosen_all (g.L.CubeList.cubes c.args.cubes.now) c.args.lits.now c.loop-lit.lit-index c.loop-lit-test.false)
    c.loop-lit.invariant
