use Rattle.std.proofs.Common.{rules, ◌<◌, length}
use Rattle.cube_text.proofs.Handing.{Hands-along}
use Rattle.drill.proofs.Choices.{first_chosen}
use Rattle.drill.proofs.summary.put_fixed.Goals as goal

pub returns-then-count-gt0 : goal.returns-then-count-gt0
returns-then-count-gt0 g c =
    let cubes = g.L.CubeList.cubes c.args.cubes.now in
    let some : 0 < length cubes = search rules in
    Hands-along _ _ _ _ _ _ (first_chosen cubes c.at.result.now some c.at.ensures) c.put_chosen.ensures
