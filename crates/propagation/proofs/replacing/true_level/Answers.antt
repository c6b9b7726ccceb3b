use Rattle.std.proofs.Common.{◌≡◌, ◌≤◌, ℕ, Some, nat_abs, sym, ap, subst, ◌∙◌, arith, rules}
use mir.Syntax.{w32}
use mir.Val.{SFits}
use Rattle.sat_terms.specs.Literals.{IsLiteralOf}
use Rattle.sat_terms.proofs.CubeLemmas.{All-literal}
use Rattle.sat_terms.proofs.Machine.{nat_abs-bits}
use Rattle.chrono_trail.specs.Items.{item_of, level_in}
use Rattle.propagation.proofs.Truths.{top_of_rest}
use Rattle.propagation.proofs.replacing.true_level.Goals as goal

pub level_of-requires : goal.level_of-requires
level_of-requires c =
    let fits : SFits w32 c.args.from = search rules in
    let named = All-literal (IsLiteralOf c.args.trail.now.variables) c.args.clause.now c.args.from c.requires.named c.requires.among in
    subst (λ v. v ≤ c.args.trail.now.variables) (sym (c.unsigned_abs.ensures.value ∙ nat_abs-bits c.args.from fits)) named.1

pub returns-in-Some : goal.returns-in-Some
returns-in-Some c =
    let items = c.args.trail.now.items in
    let fits : SFits w32 c.args.from = search rules in
    let k : ℕ = c.in-Some.level in
    let high = c.if-level-top.true in
    let same = c.level-top.ensures.level in
    let told : Some k ≡ level_in (item_of items (nat_abs c.args.from)) =
    sym c.in-Some.is ∙ c.level_of.ensures ∙ ap (λ v. level_in (item_of items v)) (c.unsigned_abs.ensures.value ∙ nat_abs-bits c.args.from fits) in
    top_of_rest c.args.trail.now.variables items c.args.trail.now.level c.args.other c.args.from c.args.clause.now c.level-top.ensures.trail
    c.requires.among c.requires.differs k (omega arith) told
