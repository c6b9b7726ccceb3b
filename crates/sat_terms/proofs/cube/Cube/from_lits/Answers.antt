use Rattle.std.proofs.Common.{◌≡◌, true, rules, sym, subst}
use Rattle.std.specs.List.{All}
use Rattle.sat_terms.specs.Literals.{IsLiteral}
use Rattle.sat_terms.specs.Cubes.{rises_above}
use Rattle.sat_terms.proofs.Variables.{IsLiteral-of_cube}
use Rattle.sat_terms.proofs.cube.Cube.from_lits.Goals as goal

pub invariant_of-result : goal.invariant_of-result
invariant_of-result c =
    let same : c.in-Ok.kept.items ≡ c.args.lits.now = search rules in
    subst (λ items. (rises_above 0 items ≡ true) × All IsLiteral items) (sym same)
    (c.in_default.ensures.rising, IsLiteral-of_cube c.args.shown.now c.args.lits.now c.requires c.in_default.ensures.over)
