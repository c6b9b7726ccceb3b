use Rattle.std.proofs.Common.{◌≡◌, ◌+◌, ◌<◌, ℕ, ℤ, max, pos, nat_abs, length, get_or, take, sym, ap, ◌∙◌, rules, arith}
use mir.Syntax.{w32}
use mir.Val.{SFits, to_z, of_z}
use Rattle.std.proofs.lemmas.Int.{to_z-of_z}
use Rattle.sat_terms.proofs.Machine.{nat_abs-bits}
use Rattle.chrono_trail.specs.Items.{item_of, level_in}
use Rattle.chrono_trail.specs.Clauses.{rest_level}
use Rattle.chrono_trail.proofs.Clauses.{level_skips, level_takes, level_told, level_untold}
use Rattle.chrono_trail.proofs.clause.level_of_rest.Goals as goal
use Rattle.chrono_trail.proofs.clause.level_of_rest.Goals.{then-other-lit+in-Some, then-other-lit+in_default, else-other-lit}

pub loop-other-preserved : goal.loop-other-preserved
loop-other-preserved c =
    let clause = c.args.clause.now in
    let items = c.args.trail.now.items in
    let i : ℕ = c.loop-other.other-index in
    let m : ℤ = get_or clause i (pos 0) in
    let l : ℤ = to_z w32 (of_z w32 c.args.lit) in
    let inside : i < length clause = c.loop-other-test.true in
    let fits : SFits w32 m = search rules in
    let lit_fits : SFits w32 c.args.lit = search rules in
    let before : c.loop-other.greatest ≡ rest_level items l (take i clause) = c.loop-other.invariant in
    let apart = λ (differs : of_z w32 m ≡ of_z w32 c.args.lit → ⊥) (same : m ≡ l). differs (ap (of_z w32) (same ∙ to_z-of_z w32 c.args.lit lit_fits)) in
    let here : c.if-other-lit.greatest ≡ rest_level items l (take (i + 1) clause) =
    elim c.if-other-lit.branch [
      | then-other-lit+in-Some w ↦
          let variable : w.unsigned_abs.result ≡ nat_abs m = w.unsigned_abs.ensures.value ∙ nat_abs-bits m fits in
          let told = level_told (item_of items (nat_abs m)) w.in-Some.level (w.in-Some.ensures ∙ ap (λ v. level_in (item_of items v)) variable) in
          w.greatest-is ∙ w.max-greatest.ensures ∙ ap (max w.in-Some.level) before ∙ sym (level_takes items l clause i (pos 0) inside (apart w.if-other-lit.true) ∙ ap (λ k. max k (rest_level items l (take i clause))) told)
      | then-other-lit+in_default w ↦
          let variable : w.unsigned_abs.result ≡ nat_abs m = w.unsigned_abs.ensures.value ∙ nat_abs-bits m fits in
          let told = level_untold (item_of items (nat_abs m)) (w.in_default.ensures ∙ ap (λ v. level_in (item_of items v)) variable) in
          let takes = level_takes items l clause i (pos 0) inside (apart w.if-other-lit.true) ∙ ap (λ k. max k (rest_level items l (take i clause))) told in
          w.greatest-is ∙ before ∙ sym (takes ∙ (omega arith))
      | else-other-lit w ↦
          w.greatest-is ∙ before ∙ sym (level_skips items l clause i (pos 0) inside (sym (to_z-of_z w32 m fits) ∙ ap (to_z w32) w.if-other-lit.false))
    ]
    in here
