use Rattle.std.proofs.Common.{◌++◌, ◌∷◌, [], ℤ, pos, get_or, All, Vec, Global, sym, ap, subst, ◌∙◌, arith, rules}
use mir.Syntax.{w32}
use mir.Val.{SFits}
use Rattle.std.proofs.lemmas.Int.{to_z-of_z}
use Rattle.std.proofs.lemmas.List.Elements.{All-push}
use Rattle.sat_terms.specs.Literals.{IsLiteral}
use Rattle.sat_terms.proofs.Machine.{nat_abs-bits}
use Rattle.plain_search.proofs.tests.clause.Goals as goal
use Rattle.plain_search.proofs.tests.clause.Goals.{then-variable-gt0+then-variable-le1000000+in_ok-push, else-variable-gt0}

pub loop-lit-preserved : goal.loop-lit-preserved
loop-lit-preserved c =
    let m : ℤ = get_or c.args.lits.now c.loop-lit.lit-index (pos 0) in
    let fits : SFits w32 m = search rules in
    let variable = c.unsigned_abs-variable.ensures.value ∙ nat_abs-bits m fits in
    elim c.if-variable-gt0.branch [
      | then-variable-gt0+then-variable-le1000000+in_ok-push w ↦
          let above = w.if-variable-gt0.true in
          let below = w.if-variable-le1000000.true in
          let named : IsLiteral m = (omega arith, omega arith) in
          let grown = ap (λ (v : Vec ℤ Global). v.items) w.kept-is ∙ w.in_ok-push.ensures.items ∙ ap (λ (z : ℤ). c.loop-lit.kept.items ++ z ∷ []) (to_z-of_z w32 m fits) in
          subst (All IsLiteral) (sym grown) (All-push IsLiteral c.loop-lit.kept.items m c.loop-lit.invariant named)
      | else-variable-gt0 w ↦ subst (λ (v : Vec ℤ Global). All IsLiteral v.items) (sym w.kept-is) c.loop-lit.invariant
    ]
