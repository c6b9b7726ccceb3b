-- The other side of a decision joins the trail, once its level is taken back.
use Rattle.std.proofs.Common.{◌≡◌, ℕ, ◌-◌, ◌<◌, ◌≤◌, Bool, List, [], ◌∷◌, ◌++◌, length, filter, find, Some, None, ℤ, neg_ℤ, nat_abs, refl, sym, ap, subst, subst₂, ◌∙◌, append-nil, arith, All}
use Rattle.std.proofs.lemmas.List.Elements.{All-nil}
use Rattle.sat_terms.specs.Literals.{IsLiteralOf}
use Rattle.sat_terms.specs.Cubes.{is_among}
use Rattle.search_region.specs.Steady.{Follows}
use Rattle.clause_arena.specs.Clauses.{Clauses}
use Rattle.chrono_trail.specs.declared.item.Kind.{Kind}
use Rattle.chrono_trail.specs.declared.item.Kind.TheVariants.{Flipped}
use Rattle.chrono_trail.specs.declared.item.Item.{Item}
use Rattle.chrono_trail.specs.Items.{decides, is_upto, item_of}
use Rattle.chrono_trail.proofs.Splits.{backtracking_frees, decisions_are_within}
use Rattle.propagation.specs.Settled.{PropagatorView, IsSettled}
use Rattle.propagation.proofs.Settled.{settled_push, settled_back}
use Rattle.projected_decide.specs.Orders.{OrderView, HasPassed}
use Rattle.projected_decide.proofs.Moving.{appending_keeps_passed}
use Rattle.live_engine.specs.declared.search.Search.{Search}
use Rattle.live_engine.specs.Values.{AreCopied}
use Rattle.live_engine.proofs.Copies.{copied_more}
use Rattle.live_engine.specs.Searching.{search_formula, IsGround}
use Rattle.live_engine.specs.Steps.{TakesBack, PutsOther, MayTurn, TurnsDecision, FlipsDecision}

-- the levels from this one on are taken back, and lemmas may have joined
pub record IsBack (old mid : Search) (level : ℕ) (d : Item) : Type 0 where
  pub decided : find (decides level) old.trail.items ≡ Some d
  pub items : mid.trail.items ≡ filter (is_upto (level - 1)) old.trail.items
  pub current : mid.trail.level ≡ level - 1
  pub variables : mid.trail.variables ≡ old.trail.variables
  pub passed : HasPassed mid.trail.items mid.order
  pub order : mid.order ≡ record old.order { from = mid.order.from }
  pub more : List (List ℤ)
  pub clauses : mid.arena.clauses ≡ old.arena.clauses ++ more
  pub base : mid.arena.base ≡ old.arena.base
  pub named : All (All (IsLiteralOf old.variables)) more
  pub follow : All (Follows (search_formula old)) more
  pub propagator : mid.propagator.variables ≡ old.propagator.variables
  pub known : mid.propagator.known ≡ length mid.arena.clauses
  pub places : length mid.arena.clauses ≤ mid.propagator.places
  pub settled : IsSettled mid.arena.clauses mid.propagator mid.trail
  pub copied : AreCopied mid.trail.items mid.copied old.values.items
  pub rest : mid ≡ record old { arena = mid.arena; propagator = mid.propagator; trail = mid.trail; order = mid.order; copied = mid.copied }

-- the variable of the decision is free then
pub back_named : (old : Search) (level : ℕ) (d : Item) → IsGround old → find (decides level) old.trail.items ≡ Some d → IsLiteralOf old.trail.variables d.lit
back_named old level d g decided = decisions_are_within old.trail.variables old.trail.items old.trail.level level d g.stands decided

pub back_free : (old : Search) (items : List Item) (level : ℕ) (d : Item) → IsGround old → 0 < level → find (decides level) old.trail.items ≡ Some d →
    items ≡ filter (is_upto (level - 1)) old.trail.items → item_of items (nat_abs d.lit) ≡ None
back_free old items level d g some decided is =
    ap (λ xs. item_of xs (nat_abs d.lit)) is ∙ backtracking_frees old.trail.variables old.trail.items old.trail.level level d g.stands some decided

-- the negation of the decision takes its place
abbrev pub put_turns : (old mid new : Search) (level at : ℕ) (d : Item) (kind : Kind) (shows : Bool) → IsBack old mid level d → PutsOther mid new d at kind shows →
    MayTurn mid.arena.clauses (filter (is_upto (level - 1)) old.trail.items) level (record { lit = neg_ℤ d.lit; level = at; kind = kind }) kind → TurnsDecision old new level shows
put_turns old mid new level at d kind shows back puts may =
    let arena = ap (λ (s : Search). s.arena) puts.rest in
    let propagator = ap (λ (s : Search). s.propagator) puts.rest in
    let order = ap (λ (s : Search). s.order) puts.rest in
    let e : Item = record { lit = neg_ℤ d.lit; level = at; kind = kind } in
    record {
      decision = d;
      item = e;
      decided = back.decided;
      negates = refl;
      turns = subst (λ (a : Clauses). MayTurn a.clauses (filter (is_upto (level - 1)) old.trail.items) level e kind) (sym arena) may;
      items = puts.items ∙ ap (λ xs. xs ++ e ∷ []) back.items;
      current = puts.current ∙ back.current;
      variables = puts.variables ∙ back.variables;
      stands = puts.stands;
      passed = subst₂ HasPassed (sym puts.items) (sym order) (appending_keeps_passed mid.trail.items (e ∷ []) mid.order back.passed);
      order = order ∙ back.order ∙ ap (λ (o : OrderView). record old.order { from = o.from }) (sym order);
      more = back.more;
      clauses = ap (λ (a : Clauses). a.clauses) arena ∙ back.clauses;
      base = ap (λ (a : Clauses). a.base) arena ∙ back.base;
      named = back.named;
      follow = back.follow;
      propagator = ap (λ (p : PropagatorView). p.variables) propagator ∙ back.propagator;
      known = ap (λ (p : PropagatorView). p.known) propagator ∙ back.known ∙ ap (λ (a : Clauses). length a.clauses) (sym arena);
      places = subst₂ (λ (a : Clauses) (p : PropagatorView). length a.clauses ≤ p.places) (sym arena) (sym propagator) back.places;
      settled = subst₂ (λ (a : Clauses) (p : PropagatorView). IsSettled a.clauses p new.trail) (sym arena) (sym propagator)
          (settled_push mid.arena.clauses mid.propagator mid.trail new.trail (e ∷ []) back.settled puts.variables puts.items
          (let same = puts.current in omega arith) puts.seen);
      rest = puts.rest ∙ ap (λ (s : Search). record s { trail = new.trail }) back.rest
          ∙ ap (λ (s : Search). record old { arena = s.arena; propagator = s.propagator; trail = new.trail; order = s.order; copied = s.copied }) (sym puts.rest);
      copied = subst₂ (λ xs n. AreCopied xs n old.values.items) (sym puts.items) (sym (ap (λ (s : Search). s.copied) puts.rest)) (copied_more mid.trail.items (e ∷ []) mid.copied old.values.items back.copied);
      told = puts.told ∙ ap (λ (s : Search). is_among s.shown.items (nat_abs d.lit)) back.rest;
    }

-- the levels that were just taken back
pub just_back : (old mid : Search) (level : ℕ) (d : Item) → IsGround old → TakesBack old mid level d → IsBack old mid level d
just_back old mid level d g takes =
    let arena = ap (λ (s : Search). s.arena) takes.rest in
    let propagator = ap (λ (s : Search). s.propagator) takes.rest in
    record {
      decided = takes.decided;
      items = takes.items;
      current = takes.current;
      variables = takes.variables;
      passed = takes.passed;
      order = takes.order;
      more = [];
      clauses = ap (λ (a : Clauses). a.clauses) arena ∙ sym (append-nil old.arena.clauses);
      base = ap (λ (a : Clauses). a.base) arena;
      named = All-nil (All (IsLiteralOf old.variables));
      follow = All-nil (Follows (search_formula old));
      propagator = ap (λ (p : PropagatorView). p.variables) propagator;
      known = ap (λ (p : PropagatorView). p.known) propagator ∙ g.known ∙ ap (λ (a : Clauses). length a.clauses) (sym arena);
      places = subst₂ (λ (a : Clauses) (p : PropagatorView). length a.clauses ≤ p.places) (sym arena) (sym propagator) g.places;
      settled = subst₂ (λ (a : Clauses) (p : PropagatorView). IsSettled a.clauses p mid.trail) (sym arena) (sym propagator)
          (settled_back old.arena.clauses old.propagator old.trail mid.trail (level - 1) g.settled takes.variables takes.items takes.current takes.seen);
      copied = takes.copied;
      rest = takes.rest ∙ ap (λ (s : Search). record old { arena = s.arena; propagator = s.propagator; trail = mid.trail; order = mid.order; copied = mid.copied }) (sym takes.rest);
    }

-- a flip
pub flipped : (old mid new : Search) (level : ℕ) (d : Item) (shows : Bool) → IsGround old → TakesBack old mid level d → PutsOther mid new d (level - 1) Flipped shows → FlipsDecision old new level shows
flipped old mid new level d shows g takes puts = record {
  turns = put_turns old mid new level (level - 1) d Flipped shows (just_back old mid level d g takes) puts refl;
  flipped = refl;
  clauses = ap (λ (s : Search). s.arena) puts.rest ∙ ap (λ (s : Search). s.arena) takes.rest;
}
