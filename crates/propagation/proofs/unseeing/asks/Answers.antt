use Rattle.std.proofs.Common.{◌≡◌, true, false, ℤ, sym, subst, ◌∙◌, arith, rules}
use mir.Syntax.{w32}
use mir.Val.{SFits}
use Rattle.std.proofs.lemmas.Int.{to_z-of_z}
use Rattle.chrono_trail.specs.Clauses.{is_true, is_false}
use Rattle.propagation.proofs.Easing.{eased_from_open, eased_by_true, not_seen}
use Rattle.propagation.proofs.Learning.{not_of_false}
use Rattle.propagation.proofs.unseeing.asks.Goals as goal

pub returns-then-not-is_false : goal.returns-then-not-is_false
returns-then-not-is_false c =
    let items = c.args.trail.now.items in
    let one : ℤ = c.args.one in
    let other : ℤ = c.args.other in
    let one_fits : SFits w32 one = search rules in
    let other_fits : SFits w32 other = search rules in
    let off : is_false items one ≡ false = subst (λ z. is_false items z ≡ false) (to_z-of_z w32 one one_fits) (sym c.is_false.ensures ∙ c.if-not-is_false.true) in
    (λ _. eased_from_open c.args.trail.now one other off)

pub returns-then-level-gt0 : goal.returns-then-level-gt0
returns-then-level-gt0 c =
    let items = c.args.trail.now.items in
    let one : ℤ = c.args.one in
    let other : ℤ = c.args.other in
    let one_fits : SFits w32 one = search rules in
    let other_fits : SFits w32 other = search rules in
    let high = c.if-level-gt0.true in
    let level = c.level-level.ensures.level in
    (λ h.
    let off : is_false items other ≡ false = subst (λ z. is_false items z ≡ false) (to_z-of_z w32 other other_fits) (sym c.is_false-then-level-gt0.ensures ∙ h) in
    record {
      not_both = λ _. not_seen c.args.trail.now other off;
      lowest = λ low _. absurd (omega arith);
    })

pub returns : goal.returns
returns c =
    let items = c.args.trail.now.items in
    let one : ℤ = c.args.one in
    let other : ℤ = c.args.other in
    let one_fits : SFits w32 one = search rules in
    let other_fits : SFits w32 other = search rules in
    (λ h.
    let on : is_true items other ≡ true = subst (λ z. is_true items z ≡ true) (to_z-of_z w32 other other_fits) (sym c.is_true.ensures ∙ not_of_false c.is_true.result h) in
    eased_by_true c.args.trail.now one other c.level-level.ensures.trail.distinct c.requires.other.0 on)
