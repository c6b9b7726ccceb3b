use Rattle.std.proofs.Common.{◌≡◌, ◌<◌, ◌^◌, ℕ, pos, neg_ℤ, nat_abs, true, false, Some, get_or, sym, ap, ◌∙◌, rules, arith}
use mir.Syntax.{w32}
use mir.Val.{SFits}
use Rattle.sat_terms.specs.Cubes.{has_literal}
use Rattle.chrono_trail.specs.declared.item.Item.{Item}
use Rattle.chrono_trail.specs.declared.item.Kind.TheVariants.{Assumed}
use Rattle.chrono_trail.specs.Items.{decides}
use Rattle.conflict_analysis.specs.Lemmas.{negation_in}
use Rattle.conflict_analysis.proofs.Bits.{negated}
use Rattle.conflict_analysis.proofs.Places.{within_at}
use Rattle.conflict_analysis.proofs.Reasons.{none_of_zero, told_had, told_lacked}
use Rattle.std.specs.List.{find}
use Rattle.conflict_analysis.proofs.walk.asserted.Goals as goal

pub returns-then-level-eq0 : goal.returns-then-level-eq0
returns-then-level-eq0 c =
    let items = c.args.trail.now.items in
    sym (ap (λ k. negation_in c.args.clause.now (find (decides k) items)) c.if-level-eq0.true
    ∙ ap (negation_in c.args.clause.now) (none_of_zero 0 items c.items-items.ensures.trail.stands))

pub returns-then-has : goal.returns-then-has
returns-then-has c =
    let items = c.args.trail.now.items in
    let lits = c.args.clause.now in
    let place : ℕ = c.decision.result in
    let d : Item = record { lit = pos 0; level = 0; kind = Assumed } in
    let trail = c.items-items.ensures.trail in
    let fits : SFits w32 (get_or c.items-items.result.now place d).lit = search rules in
    let same : get_or c.items-items.result.now place d ≡ get_or items place d = ap (λ xs. get_or xs place d) c.items-items.ensures.items in
    let named = within_at c.args.trail.now.variables items place d c.decision.ensures.inside trail.within in
    let small : nat_abs (get_or c.items-items.result.now place d).lit < 2 ^ 31 = (
    let low = named.1 in
    let few = trail.small in
    let equal = ap (λ (i : Item). nat_abs i.lit) same in
    omega arith) in
    let negation = negated (get_or c.items-items.result.now place d).lit fits small ∙ ap (λ (i : Item). neg_ℤ i.lit) same in
    let on : has_literal lits (neg_ℤ (get_or items place d).lit) ≡ true = ap (has_literal lits) (sym negation) ∙ sym c.has.ensures ∙ c.if-has.true in
    ap Some negation ∙ sym (told_had items c.args.level place d lits c.decision.ensures.inside c.decision.ensures.found on)

pub returns-else-has : goal.returns-else-has
returns-else-has c =
    let items = c.args.trail.now.items in
    let lits = c.args.clause.now in
    let place : ℕ = c.decision.result in
    let d : Item = record { lit = pos 0; level = 0; kind = Assumed } in
    let trail = c.items-items.ensures.trail in
    let fits : SFits w32 (get_or c.items-items.result.now place d).lit = search rules in
    let same : get_or c.items-items.result.now place d ≡ get_or items place d = ap (λ xs. get_or xs place d) c.items-items.ensures.items in
    let named = within_at c.args.trail.now.variables items place d c.decision.ensures.inside trail.within in
    let small : nat_abs (get_or c.items-items.result.now place d).lit < 2 ^ 31 = (
    let low = named.1 in
    let few = trail.small in
    let equal = ap (λ (i : Item). nat_abs i.lit) same in
    omega arith) in
    let negation = negated (get_or c.items-items.result.now place d).lit fits small ∙ ap (λ (i : Item). neg_ℤ i.lit) same in
    let off : has_literal lits (neg_ℤ (get_or items place d).lit) ≡ false = ap (has_literal lits) (sym negation) ∙ sym c.has.ensures ∙ c.if-has.false in
    sym (told_lacked items c.args.level place d lits c.decision.ensures.inside c.decision.ensures.found off)
