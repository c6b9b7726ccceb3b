use Rattle.std.proofs.Common.{◌≡◌, ◌+◌, true, pos, nat_abs, get_or, sym, ap, subst, ◌∙◌, arith}
use Rattle.sat_terms.specs.Cubes.{is_among}
use Rattle.sat_terms.proofs.Machine.{nat_abs-bits}
use Rattle.chrono_trail.specs.declared.item.Kind.TheVariants.{Assumed}
use Rattle.chrono_trail.specs.declared.item.Item.{Item}
use Rattle.chrono_trail.specs.Items.{IsDecisionAt}
use Rattle.live_engine.proofs.Literals.{literal_fits, decision_at}
use Rattle.live_engine.proofs.Handed.{none_above, none_hidden}
use Rattle.std.proofs.lemmas.List.{get_or_default}
use Rattle.live_engine.proofs.search.Search.next_shown.Goals as goal

pub returns-then-level-self : goal.returns-then-level-self
returns-then-level-self c = none_above c.args.self.now c.requires (let level = c.level.ensures.level in let low = c.if-level-self.true in omega arith)

pub returns-then-is_shown : goal.returns-then-is_shown
returns-then-is_shown c =
    let s = c.args.self.now in
    let none : Item = record { lit = pos 0; level = 0; kind = Assumed } in
    let d : Item = get_or c.items.result.now c.decision-place.result none in
    let known = decision_at s.trail c.items.result.now (s.base + 1) c.decision-place.result none c.items.ensures.trail c.decision-place.ensures c.items.ensures.items in
    let is : d ≡ get_or s.trail.items c.decision-place.result none = ap (λ xs. get_or xs c.decision-place.result none) c.items.ensures.items in
    let seen : c.is_shown.result ≡ is_among s.shown.items (nat_abs d.lit) = c.is_shown.ensures ∙ ap (λ p. is_among p c.unsigned_abs.result) c.as_slice.ensures.value
    ∙ ap (is_among s.shown.items) (c.unsigned_abs.ensures.value ∙ nat_abs-bits d.lit (literal_fits d.lit known.1)) in
    record {
      above = (let level = c.level.ensures.level in let high = c.if-level-self.false in omega arith);
      decision = subst (λ k. IsDecisionAt k s.trail.items c.decision-place.result) (omega arith) c.decision-place.ensures;
      shows = λ e. subst (λ (i : Item). is_among s.shown.items (nat_abs i.lit) ≡ true)
          (is ∙ get_or_default s.trail.items c.decision-place.result none e c.decision-place.ensures.inside) (sym seen ∙ c.if-is_shown.true);
    }

pub returns-else-is_shown : goal.returns-else-is_shown
returns-else-is_shown c =
    let s = c.args.self.now in
    let none : Item = record { lit = pos 0; level = 0; kind = Assumed } in
    let d : Item = get_or c.items.result.now c.decision-place.result none in
    let known = decision_at s.trail c.items.result.now (s.base + 1) c.decision-place.result none c.items.ensures.trail c.decision-place.ensures c.items.ensures.items in
    let is : d ≡ get_or s.trail.items c.decision-place.result none = ap (λ xs. get_or xs c.decision-place.result none) c.items.ensures.items in
    let seen : c.is_shown.result ≡ is_among s.shown.items (nat_abs d.lit) = c.is_shown.ensures ∙ ap (λ p. is_among p c.unsigned_abs.result) c.as_slice.ensures.value
    ∙ ap (is_among s.shown.items) (c.unsigned_abs.ensures.value ∙ nat_abs-bits d.lit (literal_fits d.lit known.1)) in
    none_hidden s c.requires (s.base + 1) c.decision-place.result none d c.decision-place.ensures is (omega arith) (sym seen ∙ c.if-is_shown.false)
