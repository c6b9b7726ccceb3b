use Rattle.std.proofs.Common.{◌<◌, ◌^◌, ℕ, ℤ, pos, neg_ℤ, nat_abs, get_or, sym, ap, subst, ◌-ℤ◌, ◌||◌, ◌∙◌, arith}
use mir.Syntax.{w32}
use mir.Val.{SFits}
use Rattle.std.proofs.lemmas.Int.{to_z-of_z}
use Rattle.std.proofs.lemmas.Bool.{eq-eqb, ne_eqb}
use Rattle.std.proofs.lemmas.List.Folds.{list_any_at, list_any_more}
use Rattle.sat_terms.specs.Cubes.{has_literal}
use Rattle.sat_terms.proofs.Machine.{literal_fits, negation_fits}
use Rattle.sat_terms.proofs.Stamps.{stamped_negation}
use Rattle.sat_terms.proofs.pairs.find_pair.Goals as goal

pub overflow_sub-lit : goal.overflow_sub-lit
overflow_sub-lit c =
    let m : ℤ = get_or c.args.clause.now c.loop-lit.lit-index (pos 0) in
    let wide = c.requires.places c.loop-lit.lit-index (pos 0) c.loop-lit-test.true in
    let few = c.requires.small in
    let small : nat_abs m < 2 ^ 31 = omega arith in
    subst (λ z. SFits w32 (pos 0 -ℤ z)) (sym (to_z-of_z w32 m (literal_fits m small))) (negation_fits m small)

pub returns-then-stamps-place_of-clause-pair : goal.returns-then-stamps-place_of-clause-pair
returns-then-stamps-place_of-clause-pair c =
    let clause = c.args.clause.now in
    let i : ℕ = c.loop-lit.lit-index in
    let told = stamped_negation c.stamp_literals.new.stamps c.args.stamps.now c.args.stamp clause (get_or clause i (pos 0)) c.place_of.result
    c.stamp_literals.ensures.literals c.stamp_literals.auto.stamps (c.requires.places i (pos 0) c.loop-lit-test.true) c.requires.small c.place_of.ensures in
    sym (list_any_at (λ l. has_literal clause (neg_ℤ l)) clause i (pos 0) c.loop-lit-test.true
    (sym told ∙ eq-eqb (get_or c.stamp_literals.new.stamps c.place_of.result 0) c.args.stamp c.if-stamps-place_of.true))

pub loop-lit-preserved : goal.loop-lit-preserved
loop-lit-preserved c =
    let clause = c.args.clause.now in
    let i : ℕ = c.loop-lit.lit-index in
    let told = stamped_negation c.stamp_literals.new.stamps c.args.stamps.now c.args.stamp clause (get_or clause i (pos 0)) c.place_of.result
    c.stamp_literals.ensures.literals c.stamp_literals.auto.stamps (c.requires.places i (pos 0) c.loop-lit-test.true) c.requires.small c.place_of.ensures in
    list_any_more (λ l. has_literal clause (neg_ℤ l)) clause i (pos 0) c.loop-lit-test.true
    ∙ ap (λ b. b || has_literal clause (neg_ℤ (get_or clause i (pos 0)))) c.loop-lit.invariant
    ∙ sym told ∙ ne_eqb (get_or c.stamp_literals.new.stamps c.place_of.result 0) c.args.stamp c.if-stamps-place_of.false
