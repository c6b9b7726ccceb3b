use Rattle.std.proofs.Common.{[], ◌≤◌, ◌<◌, length, arith}
use Rattle.cube_text.proofs.Handing.{Hands-more, Hands-along}
use Rattle.checkpoint.specs.SavedText.{found_line}
use Rattle.checkpoint.proofs.SavedLines.{Hands-nil, lines_more, lines_all}
use Rattle.checkpoint.proofs.saved_text.put_found.Goals as goal

pub loop-i-init : goal.loop-i-init
loop-i-init g c = Hands-nil _ _

pub loop-i-preserved : goal.loop-i-preserved
loop-i-preserved g c =
    let cubes = g.L.CubeList.cubes c.args.found.now in
    let inside : c.loop-i.i < length cubes = omega arith in
    Hands-along _ _ _ _ _ _ (lines_more found_line cubes c.loop-i.i [] _ inside c.at.ensures)
    (Hands-more _ _ _ _ _ _ _ _ c.loop-i.invariant c.put_line.ensures)

pub returns : goal.returns
returns g c =
    let cubes = g.L.CubeList.cubes c.args.found.now in
    let past : length cubes ≤ c.loop-i.i = omega arith in
    Hands-along _ _ _ _ _ _ (lines_all found_line cubes c.loop-i.i past) c.loop-i.invariant
