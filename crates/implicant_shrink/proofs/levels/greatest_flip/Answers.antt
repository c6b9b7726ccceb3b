use Rattle.std.proofs.Common.{◌&&◌, ◌||◌, ℕ, not, nat_le, pos, get_or, take, sym, ap, ◌∙◌}
use Rattle.search_region.specs.Model.{keeps_flips}
use Rattle.chrono_trail.specs.declared.item.Kind.TheVariants.{Assumed}
use Rattle.chrono_trail.specs.declared.item.Item.{Item}
use Rattle.chrono_trail.specs.Pictures.{picture_of}
use Rattle.implicant_shrink.specs.Levels.{marked}
use Rattle.implicant_shrink.proofs.Kept.{flips_more, within_both}
use Rattle.implicant_shrink.proofs.levels.greatest_flip.Goals as goal
use Rattle.implicant_shrink.proofs.levels.greatest_flip.Goals.{then-is_shown_flip, else-is_shown_flip}

pub loop-item-preserved : goal.loop-item-preserved
loop-item-preserved c =
    let items = c.args.items.now in
    let shown = marked c.args.shown.now in
    let i : ℕ = c.loop-item.item-index in
    let none : Item = record { lit = pos 0; level = 0; kind = Assumed } in
    let e : Item = get_or items i none in
    elim c.if-is_shown_flip.branch [
      | then-is_shown_flip w ↦
          λ clauses b. flips_more clauses shown b items i none c.loop-item-test.true
          ∙ ap (λ x. (not x || nat_le e.level b) && keeps_flips shown b (picture_of clauses (take i items))) (sym c.is_shown_flip.ensures ∙ w.if-is_shown_flip.true)
          ∙ ap (λ x. nat_le e.level b && x) (c.loop-item.invariant clauses b)
          ∙ within_both e.level b c.loop-item.level
          ∙ ap (λ k. nat_le k b) (sym (w.level-is ∙ w.max-level.ensures))
      | else-is_shown_flip w ↦
          λ clauses b. flips_more clauses shown b items i none c.loop-item-test.true
          ∙ ap (λ x. (not x || nat_le e.level b) && keeps_flips shown b (picture_of clauses (take i items))) (sym c.is_shown_flip.ensures ∙ w.if-is_shown_flip.false)
          ∙ c.loop-item.invariant clauses b
          ∙ ap (λ k. nat_le k b) (sym w.level-is)
    ]
