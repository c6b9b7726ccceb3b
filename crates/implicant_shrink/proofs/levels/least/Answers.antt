use Rattle.std.proofs.Common.{◌≡◌, ◌<◌, ◌||◌, ℕ, ℤ, pos, true, nat_abs, length, get_or, sym, ap, subst, ◌∙◌, rules}
use mir.Syntax.{w32}
use mir.Val.{SFits}
use Rattle.std.proofs.lemmas.Int.{to_z-of_z}
use Rattle.std.proofs.lemmas.List.Folds.{list_any_more, list_any_at}
use Rattle.std.proofs.Math.Bool.{or-false}
use Rattle.std.specs.Ordering.{int_eq}
use Rattle.sat_terms.specs.Cubes.{has_literal}
use Rattle.sat_terms.proofs.CubeLemmas.{int_eq-same}
use Rattle.chrono_trail.specs.Items.{item_of}
use Rattle.implicant_shrink.specs.Levels.{marked, is_at_most, level_by, is_kept_at, met_level}
use Rattle.implicant_shrink.proofs.levels.least.Goals as goal
use Rattle.implicant_shrink.proofs.levels.least.Goals.{in-Some+else-found-level, in_default}

pub loop-lit-preserved : goal.loop-lit-preserved
loop-lit-preserved c =
    let shown = marked c.args.shown.now in
    let items = c.args.trail.now.items in
    let clause = c.args.clause.now in
    let i : ℕ = c.loop-lit.lit-index in
    let m : ℤ = get_or clause i (pos 0) in
    let inside : i < length clause = c.loop-lit-test.true in
    let fits : SFits w32 m = search rules in
    let at : c.literal_level.result ≡ level_by shown m (item_of items (nat_abs m)) =
    c.literal_level.ensures ∙ ap (λ (z : ℤ). level_by shown z (item_of items (nat_abs z))) (to_z-of_z w32 m fits) in
    elim c.match-literal_level.branch [
      | in-Some+else-found-level w ↦ rw w.best-is (record {
        level = λ b low. list_any_more (is_kept_at shown b items) clause i (pos 0) inside
            ∙ ap (λ x. x || is_kept_at shown b items m) (c.loop-lit.invariant.level b low)
            ∙ ap (λ x. is_at_most b (met_level c.loop-lit.best) || x) (ap (is_at_most b) (sym at ∙ w.in-Some.is))
            ∙ sym (w.lower.ensures.level b);
        among = w.lower.ensures.among clause c.loop-lit.invariant.among
            (subst (λ (z : ℤ). has_literal clause z ≡ true) (sym (to_z-of_z w32 m fits)) (list_any_at (int_eq m) clause i (pos 0) inside (int_eq-same m)));
      })
      | in_default w ↦ rw w.best-is (record {
        level = λ b low. list_any_more (is_kept_at shown b items) clause i (pos 0) inside
            ∙ ap (λ x. x || is_kept_at shown b items m) (c.loop-lit.invariant.level b low)
            ∙ ap (λ x. is_at_most b (met_level c.loop-lit.best) || x) (ap (is_at_most b) (sym at ∙ w.in_default.is))
            ∙ or-false (is_at_most b (met_level c.loop-lit.best));
        among = c.loop-lit.invariant.among;
      })
    ]
