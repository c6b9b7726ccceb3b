use Rattle.std.proofs.Common.{◌≡◌, ◌≤◌, ℕ, ◌+◌, ◌-◌, min, true, nat_le, nat_abs, pos, length, get_or, take, drop, sym, ap, subst, ◌∙◌, arith, rules}
use mir.Syntax.{w32}
use mir.Val.{SFits}
use Rattle.std.specs.List.{list_all}
use Rattle.std.proofs.lemmas.List.{take_all}
use Rattle.sat_terms.proofs.Machine.{nat_abs-bits}
use Rattle.std.proofs.lemmas.Bool.{or_left, or_right, le-leb}
use Rattle.chrono_trail.specs.declared.item.Item.{Item}
use Rattle.chrono_trail.specs.declared.item.Kind.TheVariants.{Assumed}
use Rattle.chrono_trail.specs.Items.{is_upto}
use Rattle.chrono_trail.proofs.Back.{all_low}
use Rattle.projected_decide.specs.Orders.{OrderView, HasPassed, place_in}
use Rattle.projected_decide.proofs.Moving.{is_back, back_more, back_whole, filter-all, putting_back_keeps_passed}
use Rattle.projected_decide.proofs.order.Order.put_back_above.Goals as goal
use Rattle.projected_decide.proofs.order.Order.put_back_above.Goals.{then-item-level, else-item-level}

pub returns-then-level-clause-passed : goal.returns-then-level-clause-passed
returns-then-level-clause-passed c =
    let items = c.args.trail.now.items in
    let current = c.level.ensures.trail.current in
    let same = c.level.ensures.level in
    let at = c.if-level.true in
    subst (λ xs. HasPassed xs c.args.self.now) (sym (filter-all (is_upto c.args.level) items (all_low 0 c.args.level items c.level.ensures.trail.stands (omega arith))))
    c.requires.passed

pub loop-item-preserved : goal.loop-item-preserved
loop-item-preserved c =
    let items = c.items.result.now in
    let start : ℕ = c.decision.result in
    let xs = take (length items - start) (drop start items) in
    let i : ℕ = c.loop-item.item-index in
    let none : Item = record { lit = pos 0; level = 0; kind = Assumed } in
    let e : Item = get_or xs i none in
    elim c.if-item-level.branch [
      | then-item-level w ↦
          let fits : SFits w32 e.lit = search rules in
          let order = c.args.self.now.order in
          let k : ℕ = c.loop-item.self.from in
          let same_order : c.loop-item.self.order ≡ order = ap (λ (o : OrderView). o.order) c.loop-item.invariant.same in
          let place : place_in w.unsigned_abs.result c.loop-item.self.order ≡ place_in (nat_abs e.lit) order =
          ap (λ v. place_in v c.loop-item.self.order) (w.unsigned_abs.ensures.value ∙ nat_abs-bits e.lit fits) ∙ ap (place_in (nat_abs e.lit)) same_order in
          let less : min k (place_in w.unsigned_abs.result c.loop-item.self.order) ≤ k = omega arith in
          let lower = c.loop-item.invariant.lower in
          rw (w.self-is, w.put_back.ensures) (record {
            same = ap (λ (o : OrderView). record o { from = min k (place_in w.unsigned_abs.result c.loop-item.self.order) }) c.loop-item.invariant.same;
            lower = omega arith;
            back = back_more (is_upto c.args.level) order xs i none k (min k (place_in w.unsigned_abs.result c.loop-item.self.order)) c.loop-item-test.true less
                c.loop-item.invariant.back (or_right (is_upto c.args.level e) (nat_le (min k (place_in w.unsigned_abs.result c.loop-item.self.order)) (place_in (nat_abs e.lit) order))
                (le-leb (min k (place_in w.unsigned_abs.result c.loop-item.self.order)) (place_in (nat_abs e.lit) order) (omega arith)));
          })
      | else-item-level w ↦ rw w.self-is (record {
        same = c.loop-item.invariant.same;
        lower = c.loop-item.invariant.lower;
        back = back_more (is_upto c.args.level) c.args.self.now.order xs i none c.loop-item.self.from c.loop-item.self.from c.loop-item-test.true (omega arith)
            c.loop-item.invariant.back (or_left (is_upto c.args.level e) (nat_le c.loop-item.self.from (place_in (nat_abs e.lit) c.args.self.now.order))
            (le-leb e.level c.args.level w.if-item-level.false));
      })
    ]

pub returns-clause-passed : goal.returns-clause-passed
returns-clause-passed c =
    let items = c.args.trail.now.items in
    let start : ℕ = c.decision.result in
    let back = is_back (is_upto c.args.level) c.loop-item.self.from c.args.self.now.order in
    let same = c.items.ensures.items in
    putting_back_keeps_passed items (is_upto c.args.level) c.args.self.now c.loop-item.self c.requires.passed
    (ap (λ (o : OrderView). o.order) c.loop-item.invariant.same) c.loop-item.invariant.lower
    (back_whole (is_upto c.args.level) c.args.self.now.order c.loop-item.self.from items start
    (let down : c.args.level + 1 - 1 ≡ c.args.level = omega arith in subst (λ k. list_all (is_upto k) (take start items) ≡ true) down c.decision.ensures.low)
    (subst (λ xs. list_all back (take (length xs - start) (drop start xs)) ≡ true) same
    (sym (ap (list_all back) (take_all c.loop-item.item-index (take (length c.items.result.now - start) (drop start c.items.result.now)) c.loop-item-test.false)) ∙ c.loop-item.invariant.back)))
