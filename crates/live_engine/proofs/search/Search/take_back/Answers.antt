use Rattle.std.proofs.Common.{◌-◌, pos, refl, sym, subst, subst₂, ℕ, arith}
use Rattle.chrono_trail.specs.declared.item.Kind.TheVariants.{Assumed}
use Rattle.chrono_trail.specs.declared.item.Item.{Item}
use Rattle.projected_decide.specs.Orders.{HasPassed}
use Rattle.live_engine.specs.Values.{AreCopied}
use Rattle.live_engine.proofs.Copies.{copied_back}
use Rattle.live_engine.proofs.Literals.{decision_at}
use Rattle.live_engine.proofs.search.Search.take_back.Goals as goal

pub returns : goal.returns
returns c =
    let old = c.args.self.now in
    let none : Item = record { lit = pos 0; level = 0; kind = Assumed } in
    let place : ℕ = c.decision-place.result in
    record {
      decided = (decision_at old.trail c.items.result.now c.args.level place none c.items.ensures.trail c.decision-place.ensures c.items.ensures.items).0;
      items = c.backtrack.ensures.items;
      current = c.backtrack.ensures.level;
      variables = c.backtrack.ensures.variables;
      seen = c.backtrack.ensures.seen;
      stands = c.backtrack.ensures.trail;
      passed = subst (λ xs. HasPassed xs c.put_back_above.new.self) (sym c.backtrack.ensures.items) c.put_back_above.ensures.passed;
      order = c.put_back_above.ensures.order;
      copied = subst₂ (λ xs n. AreCopied xs n old.values.items) (sym c.backtrack.ensures.items) (sym c.min-self.ensures)
          (copied_back old.trail.items (c.args.level - 1) place old.copied old.values.items (let inside = c.decision-place.ensures.inside in omega arith)
          c.decision-place.ensures.low c.requires.copied);
      rest = refl;
    }
