use Rattle.std.proofs.Common.{◌≡◌, true, get_or, ◌∙◌, arith, rules}
use Rattle.std.specs.Prelude.{pos}
use mir.Syntax.{w32}
use mir.Val.{SFits}
use Rattle.sat_terms.specs.Cubes.{is_among}
use Rattle.sat_terms.proofs.Machine.{nat_abs-bits}
use Rattle.sat_terms.proofs.Variables.{IsCube-more}
use Rattle.sat_terms.proofs.cube.refusal.Goals as goal

pub loop-place-preserved : goal.loop-place-preserved
loop-place-preserved c =
    let fits : SFits w32 (get_or c.args.lits.now c.loop-place.place (pos 0)) = search rules in
    let shown : is_among c.args.shown.now c.unsigned_abs-variable.result ≡ true = search rules in
    IsCube-more c.args.shown.now c.args.lits.now c.loop-place.place c.unsigned_abs-variable.result c.loop-place-test.true c.loop-place.invariant.0
    (c.unsigned_abs-variable.ensures.value ∙ nat_abs-bits _ fits) shown (omega arith)
