use Rattle.std.proofs.Common.{◌≡◌, ℤ, nat_abs, Some, None, sym, subst, ◌∙◌, rules}
use mir.Syntax.{w32}
use mir.Val.{SFits}
use Rattle.std.proofs.lemmas.Int.{to_z-of_z}
use Rattle.chrono_trail.specs.Items.{item_of, value_in}
use Rattle.propagation.proofs.Truths.{value_told, value_untold}
use Rattle.propagation.proofs.values.is_true.Goals as goal

pub returns-in-Some : goal.returns-in-Some
returns-in-Some c =
    let l : ℤ = c.args.lit in
    let fits : SFits w32 l = search rules in
    let items = c.args.trail.now.items in
    let told : value_in l (item_of items (nat_abs l)) ≡ Some c.in-Some.value =
    subst (λ (z : ℤ). value_in z (item_of items (nat_abs z)) ≡ Some c.in-Some.value) (to_z-of_z w32 l fits) (sym c.value.ensures ∙ c.in-Some.is) in
    sym ((value_told items l c.requires.distinct c.requires.named.0 c.in-Some.value told).0)

pub returns-in-None : goal.returns-in-None
returns-in-None c =
    let l : ℤ = c.args.lit in
    let fits : SFits w32 l = search rules in
    let items = c.args.trail.now.items in
    let told : value_in l (item_of items (nat_abs l)) ≡ None =
    subst (λ (z : ℤ). value_in z (item_of items (nat_abs z)) ≡ None) (to_z-of_z w32 l fits) (search rules) in
    sym ((value_untold items l told).0)
