use Rattle.std.proofs.Common.{ℕ, ℤ, pos, get_or, sym, ap, ◌∙◌, rules}
use mir.Syntax.{w32}
use mir.Val.{SFits}
use Rattle.std.proofs.lemmas.Int.{to_z-of_z}
use Rattle.std.proofs.lemmas.List.Folds.{list_any_at}
use Rattle.sat_terms.specs.Cubes.{has_literal}
use Rattle.cube_check.proofs.Missing.{none_more}
use Rattle.cube_check.proofs.misses.has_marked.Goals as goal

pub returns-then-has : goal.returns-then-has
returns-then-has c = λ held h.
    let i : ℕ = c.loop-lit.lit-index in
    let m : ℤ = get_or c.args.lits.now i (pos 0) in
    let fits : SFits w32 m = search rules in
    sym (list_any_at (has_literal held) c.args.lits.now i (pos 0) c.loop-lit-test.true
    (sym (ap (has_literal held) (to_z-of_z w32 m fits)) ∙ sym (c.has.ensures held h) ∙ c.if-has.true))

pub loop-lit-preserved : goal.loop-lit-preserved
loop-lit-preserved c = λ held h.
    let i : ℕ = c.loop-lit.lit-index in
    let m : ℤ = get_or c.args.lits.now i (pos 0) in
    let fits : SFits w32 m = search rules in
    none_more (has_literal held) c.args.lits.now i (pos 0) c.loop-lit-test.true (c.loop-lit.invariant held h)
    (sym (ap (has_literal held) (to_z-of_z w32 m fits)) ∙ sym (c.has.ensures held h) ∙ c.if-has.false)
