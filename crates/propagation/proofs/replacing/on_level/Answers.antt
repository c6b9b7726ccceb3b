use Rattle.std.proofs.Common.{◌≤◌, sym, subst, ◌∙◌, rules}
use mir.Syntax.{w32}
use mir.Val.{SFits}
use Rattle.sat_terms.specs.Literals.{IsLiteralOf}
use Rattle.sat_terms.proofs.CubeLemmas.{All-literal}
use Rattle.sat_terms.proofs.Machine.{nat_abs-bits}
use Rattle.propagation.proofs.replacing.on_level.Goals as goal

pub level_of-requires : goal.level_of-requires
level_of-requires c =
    let fits : SFits w32 c.args.from = search rules in
    let named = All-literal (IsLiteralOf c.args.trail.now.variables) c.args.clause.now c.args.from c.requires.named c.requires.among in
    subst (λ v. v ≤ c.args.trail.now.variables) (sym (c.unsigned_abs.ensures.value ∙ nat_abs-bits c.args.from fits)) named.1
