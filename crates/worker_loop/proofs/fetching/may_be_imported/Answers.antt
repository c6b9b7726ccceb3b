use Rattle.std.proofs.Common.{rules, ◌≡◌, ◌<◌, ℕ, ℤ, List, pos, nat_abs, get_or, length, arith, refl, ap, subst, ◌∙◌}
use borrow.Author.Count.{below_more}
use mir.Syntax.{w32}
use mir.Val.{SFits}
use Rattle.std.proofs.lemmas.Int.{to_z-of_z}
use Rattle.std.proofs.lemmas.List.{get_or_default}
use Rattle.sat_terms.specs.Literals.{IsLiteralOf}
use Rattle.worker_loop.proofs.fetching.may_be_imported.Goals as goal

pub loop-literal-preserved : goal.loop-literal-preserved
loop-literal-preserved c =
    let items = c.lits-literal-items.result.now in
    let i : ℕ = c.loop-literal.literal-index in
    let m : ℤ = get_or items i (pos 0) in
    let fits : SFits w32 m = search rules in
    let inside : i < length items = c.loop-literal-test.true in
    let named : c.unsigned_abs-variable.result ≡ nat_abs m =
    c.unsigned_abs-variable.ensures.value ∙ ap nat_abs (to_z-of_z w32 m fits) in
    let here : IsLiteralOf c.args.variables m = (omega arith, omega arith) in
    λ k d less.
    below_more
    (λ (n : ℕ). (e : ℤ) → IsLiteralOf c.args.variables (get_or items n e))
    i
    (λ n l e. c.loop-literal.invariant n e l)
    (λ e. subst (IsLiteralOf c.args.variables) (get_or_default items i (pos 0) e inside) here)
    k less d

pub returns : goal.returns
returns c =
    let long = ap length c.lits-literal-items.ensures in (
      (λ _. record {
        short = omega arith;
        literals = λ k d less.
            subst (λ (ls : List ℤ). IsLiteralOf c.args.variables (get_or ls k d))
            c.lits-literal-items.ensures
            (c.loop-literal.invariant k d (omega arith));
      }),
      λ _. refl,
    )
