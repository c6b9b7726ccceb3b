use Rattle.std.proofs.Common.{◌<◌, ◌&&◌, ◌||◌, ℕ, nat_cmp, not, nat_le, pos, length, get_or, take, sym, ap, subst, ◌∙◌}
use Rattle.std.specs.Ordering.{ord_max}
use Rattle.sat_terms.specs.Cubes.{is_among}
use Rattle.search_region.specs.Model.{keeps_flips}
use Rattle.chrono_trail.specs.declared.item.Kind.TheVariants.{Assumed}
use Rattle.chrono_trail.specs.declared.item.Item.{Item}
use Rattle.chrono_trail.specs.Pictures.{picture_of}
use Rattle.plain_search.specs.Steps.{is_shown_flip}
use Rattle.plain_search.proofs.Looks.{flips_more, within_both}
use Rattle.plain_search.proofs.search.Search.flips_level.Goals as goal
use Rattle.plain_search.proofs.search.Search.flips_level.Goals.{then-is_shown_flip, else-is_shown_flip}

pub loop-item-preserved : goal.loop-item-preserved
loop-item-preserved c =
    let s = c.args.subject.now in
    let items = c.args.self.now.trail.items in
    let i : ℕ = c.loop-item.item-index in
    let none : Item = record { lit = pos 0; level = 0; kind = Assumed } in
    let e : Item = get_or items i none in
    let same = c.items-item-items.ensures.items in
    let inside = subst (λ xs. i < length xs) same c.loop-item-test.true in
    let flip = sym (c.is_shown_flip.ensures ∙ ap (λ xs. is_shown_flip s (get_or xs i none)) same) in
    let before = λ (b : ℕ). keeps_flips (is_among s.shown) b (picture_of s.formula.clauses (take i items)) in
    elim c.if-is_shown_flip.branch [
      | then-is_shown_flip w ↦
          λ b. flips_more s b items i none inside
          ∙ ap (λ x. (not x || nat_le e.level b) && before b) (flip ∙ w.if-is_shown_flip.true)
          ∙ ap (λ x. nat_le e.level b && x) (c.loop-item.invariant b)
          ∙ within_both e.level b c.loop-item.level
          ∙ ap (λ k. nat_le k b) (sym (w.level-is ∙ w.max-level.ensures ∙ ap (λ xs. ord_max nat_cmp c.loop-item.level (get_or xs i none).level) same))
      | else-is_shown_flip w ↦
          λ b. flips_more s b items i none inside
          ∙ ap (λ x. (not x || nat_le e.level b) && before b) (flip ∙ w.if-is_shown_flip.false)
          ∙ c.loop-item.invariant b
          ∙ ap (λ k. nat_le k b) (sym w.level-is)
    ]
