use Rattle.std.proofs.Common.{◌≡◌, ◌+◌, pos, nat_abs, get_or, sym, ap, ◌∙◌, arith}
use Rattle.sat_terms.specs.Cubes.{is_among}
use Rattle.sat_terms.proofs.Machine.{nat_abs-bits}
use Rattle.chrono_trail.specs.declared.item.Kind.TheVariants.{Assumed}
use Rattle.chrono_trail.specs.declared.item.Item.{Item}
use Rattle.live_engine.proofs.Literals.{literal_fits, decision_at}
use Rattle.live_engine.proofs.Handed.{based, level_small, gone_low, gone_shown, gone_hidden}
use Rattle.std.proofs.lemmas.List.{get_or_default}
use Rattle.live_engine.proofs.search.Search.leaves_gone.Goals as goal

pub overflow_add-self : goal.overflow_add-self
overflow_add-self c = let s = c.args.self.now in let low = based s c.requires in let high = level_small s c.requires in let small = c.requires.ground.small in omega arith

pub returns-then-level-self : goal.returns-then-level-self
returns-then-level-self c = sym (gone_low c.args.self.now c.requires (let level = c.level.ensures.level in let low = c.if-level-self.true in omega arith))

pub index-requires : goal.index-requires
index-requires c =
    let s = c.args.self.now in
    let high = level_small s c.requires in
    let long = c.requires.ground.counted in
    let level = c.level.ensures.level in
    let above = c.if-level-self.false in
    omega arith

pub returns-then-is_shown : goal.returns-then-is_shown
returns-then-is_shown c =
    let s = c.args.self.now in
    let none : Item = record { lit = pos 0; level = 0; kind = Assumed } in
    let d : Item = get_or c.items.result.now c.decision.result none in
    let known = decision_at s.trail c.items.result.now (s.base + 2) c.decision.result none c.items.ensures.trail c.decision.ensures c.items.ensures.items in
    let is : d ≡ get_or s.trail.items c.decision.result none = ap (λ xs. get_or xs c.decision.result none) c.items.ensures.items in
    let seen : c.is_shown.result ≡ is_among s.shown.items (nat_abs d.lit) = c.is_shown.ensures ∙ ap (λ p. is_among p c.unsigned_abs.result) c.as_slice.ensures.value
    ∙ ap (is_among s.shown.items) (c.unsigned_abs.ensures.value ∙ nat_abs-bits d.lit (literal_fits d.lit known.1)) in
    let high = level_small s c.requires in
    let long = c.requires.ground.counted in
    let level = c.level.ensures.level in
    let above = c.if-level-self.false in
    c.index.ensures ∙ get_or_default s.counts.items (s.base + 2) c.index.result.now 0 (omega arith) ∙ sym (gone_shown s c.requires (s.base + 2) c.decision.result none d c.decision.ensures is (omega arith) (sym seen ∙ c.if-is_shown.true))

pub returns-else-is_shown : goal.returns-else-is_shown
returns-else-is_shown c =
    let s = c.args.self.now in
    let none : Item = record { lit = pos 0; level = 0; kind = Assumed } in
    let d : Item = get_or c.items.result.now c.decision.result none in
    let known = decision_at s.trail c.items.result.now (s.base + 2) c.decision.result none c.items.ensures.trail c.decision.ensures c.items.ensures.items in
    let is : d ≡ get_or s.trail.items c.decision.result none = ap (λ xs. get_or xs c.decision.result none) c.items.ensures.items in
    let seen : c.is_shown.result ≡ is_among s.shown.items (nat_abs d.lit) = c.is_shown.ensures ∙ ap (λ p. is_among p c.unsigned_abs.result) c.as_slice.ensures.value
    ∙ ap (is_among s.shown.items) (c.unsigned_abs.ensures.value ∙ nat_abs-bits d.lit (literal_fits d.lit known.1)) in
    sym (gone_hidden s c.requires (s.base + 2) c.decision.result none d c.decision.ensures is (omega arith) (sym seen ∙ c.if-is_shown.false))
