use Rattle.std.proofs.Common.{◌≡◌, ◌+◌, ◌<◌, ◌≤◌, ℕ, ℤ, pos, neg_ℤ, ◌-ℤ◌, Some, true, false, length, take, get_or, sym, ap, subst, ◌∙◌, arith}
use mir.Syntax.{w32}
use mir.Val.{to_z, of_z}
use Rattle.std.specs.List.{list_all}
use Rattle.std.proofs.lemmas.List.Elements.{All-weaker}
use Rattle.std.proofs.lemmas.Int.{ints}
use Rattle.std.proofs.lemmas.List.{get_or_read}
use Rattle.projected_decide.specs.Orders.{OrderView, is_set, next_decision}
use Rattle.projected_decide.proofs.Lowest.{next_at, next_end, full_ends}
use Rattle.projected_decide.proofs.order.Order.next.Goals as goal
use Rattle.projected_decide.proofs.order.Order.next.Goals.{then-self-len, else-self-len}

pub returns-clause-next : goal.returns-clause-next
returns-clause-next c =
    let items = c.args.trail.now.items in
    let order = c.self.inside.order.items in
    let place : ℕ = c.first_free-self-inside.result in
    let same = c.as_slice.ensures.value in
    let set : list_all (is_set items) (take place order) ≡ true = subst (λ xs. list_all (is_set items) (take place xs) ≡ true) same c.first_free-self-inside.ensures.set in
    let at_len = c.len.ensures in
    let viewed : next_decision items order ≡ next_decision items c.args.self.now.order =
    ap (λ (o : OrderView). next_decision items o.order) c.self.view_is in
    elim c.if-self-len.branch [
      | then-self-len w ↦
          let inside : place < length order = (let short = w.if-self-len.true in omega arith) in
          let x : ℕ = w.index.result.now in
          let read : x ≡ get_or order place 0 = get_or_read order place x inside w.index.ensures 0 in
          let low = c.self.invariant.within place 0 inside in
          let small = c.self.invariant.small in
          let lit : to_z w32 (of_z w32 (pos 0 -ℤ to_z w32 x)) ≡ neg_ℤ (pos x) = omega (arith, ints) in
          let free : is_set items (get_or order place 0) ≡ false =
          subst (λ xs. is_set items (get_or xs place 0) ≡ false) same (c.first_free-self-inside.ensures.free (subst (λ xs. place < length xs) (sym same) inside)) in
          w.result-is ∙ ap (λ (l : ℤ). Some l) (lit ∙ ap (λ v. neg_ℤ (pos v)) read) ∙ sym (next_at items order place set inside free) ∙ viewed
      | else-self-len w ↦ w.result-is ∙ sym (next_end items order place set (let high = w.if-self-len.false in omega arith)) ∙ viewed
    ]

pub returns-then-items-len-clause-next : goal.returns-then-items-len-clause-next
returns-then-items-len-clause-next c =
    let items = c.args.trail.now.items in
    let order = c.self.inside.order.items in
    let n : ℕ = c.args.trail.now.variables in
    let wide : ℕ = length c.self.inside.places.items in
    let test = c.if-items-len.true in
    let size = c.len.ensures in
    let some = c.self.invariant.some in
    let same = c.requires.variables in
    let count : wide ≡ n + 1 = (let seen = ap (λ (o : OrderView). o.variables) c.self.view_is in omega arith) in
    let full : n ≤ length items = (let now = ap length c.items.ensures.items in omega arith) in
    sym (full_ends n items c.args.trail.now.level order c.items.ensures.trail full c.self.invariant.named
    (All-weaker (λ v. v < wide) (λ v. v ≤ n) (λ v h. omega arith) order c.self.invariant.within))
    ∙ ap (λ (o : OrderView). next_decision items o.order) c.self.view_is
