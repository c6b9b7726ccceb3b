use Rattle.std.proofs.Common.{◌≡◌, ◌<◌, ◌≤◌, ℕ, length, ap, ◌∙◌, arith}
use Rattle.std.proofs.lemmas.List.Elements.{All-same, All-weaker}
use Rattle.projected_decide.specs.Orders.{order_of, place_in}
use Rattle.projected_decide.proofs.Filling.{order_within, order_named, order_short}
use Rattle.projected_decide.proofs.order.Order.make.Goals as goal

pub places_of-requires-clause-within : goal.places_of-requires-clause-within
places_of-requires-clause-within c =
    let n : ℕ = c.args.variables in
    All-same (λ v. v ≤ n) c.as_slice.result.now (order_of n c.args.shown.now) (c.as_slice.ensures.value ∙ c.in_ok-order.ensures)
    (order_within n c.args.shown.now c.requires.shown)

pub places_of-requires-clause-few : goal.places_of-requires-clause-few
places_of-requires-clause-few c =
    let n : ℕ = c.args.variables in
    let small = c.requires.small in
    let short = order_short n c.args.shown.now c.requires.shown in
    let same : length c.as_slice.result.now ≡ length (order_of n c.args.shown.now) = ap length (c.as_slice.ensures.value ∙ c.in_ok-order.ensures) in
    omega arith

pub invariant_of-result : goal.invariant_of-result
invariant_of-result c =
    let n : ℕ = c.args.variables in
    let small = c.requires.small in
    let wide = c.in_ok-places.ensures.length in
    record {
      some = omega arith;
      small = omega arith;
      within = All-same (λ v. v < length c.in_ok-places.places.items) c.in_ok-order.order.items (order_of n c.args.shown.now) c.in_ok-order.ensures
          (All-weaker (λ v. v ≤ n) (λ v. v < length c.in_ok-places.places.items) (λ v h. omega arith) (order_of n c.args.shown.now)
          (order_within n c.args.shown.now c.requires.shown));
      named = All-same (λ v. 0 < v) c.in_ok-order.order.items (order_of n c.args.shown.now) c.in_ok-order.ensures
          (order_named n c.args.shown.now c.requires.shown);
      tells = λ v inside. c.in_ok-places.ensures.places v (omega arith) ∙ ap (place_in v) c.as_slice.ensures.value;
    }
