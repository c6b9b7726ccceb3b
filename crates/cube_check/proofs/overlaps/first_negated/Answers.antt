use Rattle.std.proofs.Common.{ℕ, ℤ, pos, neg_ℤ, get_or, sym, ap, ◌∙◌, arith, rules}
use mir.Syntax.{w32}
use mir.Val.{SFits}
use Rattle.std.proofs.lemmas.Int.{to_z-of_z}
use Rattle.sat_terms.specs.Cubes.{has_literal}
use Rattle.cube_check.proofs.Missing.{none_more}
use Rattle.cube_check.proofs.overlaps.first_negated.Goals as goal

pub returns-then-has_negation : goal.returns-then-has_negation
returns-then-has_negation c = λ held h.
    let i : ℕ = c.loop-place.place in
    let m : ℤ = get_or c.args.lits.now i (pos 0) in
    let fits : SFits w32 m = search rules in (
      omega arith,
      c.loop-place-test.true,
      sym (ap (λ l. has_literal held (neg_ℤ l)) (to_z-of_z w32 m fits)) ∙ sym (c.has_negation.ensures held h) ∙ c.if-has_negation.true,
      c.loop-place.invariant held h,
    )

pub loop-place-preserved : goal.loop-place-preserved
loop-place-preserved c = λ held h clean.
    let i : ℕ = c.loop-place.place in
    let m : ℤ = get_or c.args.lits.now i (pos 0) in
    let fits : SFits w32 m = search rules in
    none_more (λ l. has_literal held (neg_ℤ l)) c.args.lits.now i (pos 0) c.loop-place-test.true (c.loop-place.invariant held h clean)
    (sym (ap (λ l. has_literal held (neg_ℤ l)) (to_z-of_z w32 m fits)) ∙ sym (c.has_negation.ensures held h) ∙ c.if-has_negation.false)
