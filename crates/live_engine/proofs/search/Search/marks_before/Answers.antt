use Rattle.std.proofs.Common.{◌≡◌, ◌∷◌, ◌+◌, ◌<◌, ◌≤◌, ◌^◌, ℕ, get_or, take, length, pos, nat_abs, sym, ap, subst, ◌∙◌, arith, length-set, length-take}
use Rattle.std.proofs.lemmas.List.{take_more, get_or-take}
use Rattle.sat_terms.proofs.Machine.{nat_abs-bits}
use Rattle.chrono_trail.specs.declared.item.Kind.TheVariants.{Assumed}
use Rattle.chrono_trail.specs.declared.item.Item.{Item}
use Rattle.chrono_trail.specs.Pictures.{pictured, picture_of}
use Rattle.chrono_trail.proofs.Pictures.{picture-push}
use Rattle.live_engine.specs.Marks.{AreMarkedBy}
use Rattle.live_engine.proofs.Literals.{literal_fits}
use Rattle.live_engine.proofs.Literals.{item_small, item_low}
use Rattle.live_engine.proofs.Marking.{marked, plain_is, beside}
use Rattle.live_engine.proofs.search.Search.marks_before.Goals as goal

pub loop-item-preserved : goal.loop-item-preserved
loop-item-preserved c =
    let s = c.args.self.now in
    let items = s.trail.items in
    let i : ℕ = c.loop-item.item-index in
    let none : Item = record { lit = pos 0; level = 0; kind = Assumed } in
    let e : Item = get_or (take c.args.place c.items.result.now) i none in
    let long = length-take c.args.place c.items.result.now in
    let test = c.loop-item-test.true in
    let before : i < c.args.place = omega arith in
    let inside : i < length items = subst (λ xs. i < length xs) c.items.ensures.items (omega arith) in
    let is : e ≡ get_or items i none = get_or-take c.args.place c.items.result.now i none before ∙ ap (λ xs. get_or xs i none) c.items.ensures.items in
    let older = picture_of s.arena.clauses (take i items) in
    let d = pictured s.arena.clauses e in
    let small : nat_abs e.lit < 2 ^ 31 = subst (λ (x : Item). nat_abs x.lit < 2 ^ 31) (sym is) (item_small s.trail.variables items s.trail.level i none c.items.ensures.trail inside) in
    let low : nat_abs e.lit ≤ s.trail.variables = subst (λ (x : Item). nat_abs x.lit ≤ s.trail.variables) (sym is) (item_low s.trail.variables items s.trail.level i none c.items.ensures.trail inside) in
    let wide = c.requires.ground.trail in
    let full = c.loop-item.invariant.long in
    let marks = c.loop-item.marks.items in
    let at : c.unsigned_abs.result ≡ nat_abs e.lit = c.unsigned_abs.ensures.value ∙ nat_abs-bits e.lit (literal_fits e.lit small) in
    let now : picture_of s.arena.clauses (take (i + 1) items) ≡ d ∷ older =
    ap (picture_of s.arena.clauses) (take_more items i none inside) ∙ picture-push s.arena.clauses (take i items) (get_or items i none)
    ∙ ap (λ x. pictured s.arena.clauses x ∷ older) (sym is) in
    record {
      long = ap length c.mark.ensures ∙ length-set marks c.unsigned_abs.result c.plain_literal.result ∙ full;
      marks = subst (AreMarkedBy s.variables c.mark.new.marks.items) (sym now)
          (subst (λ m. AreMarkedBy s.variables m (d ∷ older)) (sym c.mark.ensures)
          (marked s.variables marks older d c.unsigned_abs.result c.plain_literal.result at (omega arith)
          (c.plain_literal.ensures ∙ plain_is s.arena.clauses e)
          (beside c.unsigned_abs.result s.variables marks older c.loop-item.invariant.marks)));
    }

pub returns-clause-marks : goal.returns-clause-marks
returns-clause-marks c =
    let s = c.args.self.now in
    let items = s.trail.items in
    let i : ℕ = c.loop-item.item-index in
    let long = length-take c.args.place c.items.result.now in
    let same = ap length c.items.ensures.items in
    let within = c.requires.within in
    let past = c.loop-item-test.false in
    let end = c.loop-item.auto.item-index-end in
    let at : i ≡ c.args.place = omega arith in
    subst (λ k. AreMarkedBy s.variables c.loop-item.marks.items (picture_of s.arena.clauses (take k items))) at c.loop-item.invariant.marks
