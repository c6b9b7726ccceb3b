use Rattle.std.proofs.Common.{◌-◌, ◌<◌, ℤ, pos, neg_ℤ, nat_abs, [], ◌∷◌, ◌++◌, get_or, ap, refl, ◌∙◌, arith}
use Rattle.sat_terms.proofs.CubeLemmas.{nat_abs-neg}
use Rattle.chrono_trail.specs.declared.item.Kind.TheVariants.{Assumed, Flipped}
use Rattle.chrono_trail.specs.declared.item.Item.{Item}
use Rattle.chrono_trail.specs.Items.{item_of}
use Rattle.chrono_trail.proofs.Splits.{backtracking_frees}
use Rattle.sat_terms.proofs.Machine.{negated}
use Rattle.plain_search.proofs.Moves.{decision_at}
use Rattle.plain_search.proofs.search.Search.flip.Goals as goal

pub assign-requires-clause-unassigned : goal.assign-requires-clause-unassigned
assign-requires-clause-unassigned c =
    let t = c.args.self.now.trail in
    let none : Item = record { lit = pos 0; level = 0; kind = Assumed } in
    let d : Item = get_or c.items.result.now c.decision.result none in
    let known = decision_at t c.items.result.now c.args.level c.decision.result none c.items.ensures.trail c.decision.ensures c.items.ensures.items in
    let above : 0 < c.args.level = omega arith in
    ap (item_of c.backtrack.new.self.items) (ap nat_abs (negated d.lit known.1) ∙ nat_abs-neg d.lit)
    ∙ ap (λ xs. item_of xs (nat_abs d.lit)) c.backtrack.ensures.items
    ∙ backtracking_frees t.variables t.items t.level c.args.level d c.items.ensures.trail above known.0

pub returns : goal.returns
returns c =
    let none : Item = record { lit = pos 0; level = 0; kind = Assumed } in
    let d : Item = get_or c.items.result.now c.decision.result none in
    let known = decision_at c.args.self.now.trail c.items.result.now c.args.level c.decision.result none c.items.ensures.trail c.decision.ensures c.items.ensures.items in
    record {
      above = omega arith;
      decision = d;
      decided = known.0;
      items = c.assign.ensures.items
          ∙ ap (λ (z : ℤ). c.backtrack.new.self.items ++ record { lit = z; level = c.args.level - 1; kind = Flipped } ∷ []) (negated d.lit known.1)
          ∙ ap (λ xs. xs ++ record { lit = neg_ℤ d.lit; level = c.args.level - 1; kind = Flipped } ∷ []) c.backtrack.ensures.items;
      current = c.assign.ensures.level ∙ c.backtrack.ensures.level;
      variables = c.assign.ensures.variables ∙ c.backtrack.ensures.variables;
      pairs = refl;
      found = refl;
      shown_again = c.none-self.ensures.shown;
      again = c.none-self.ensures.variable;
    }
