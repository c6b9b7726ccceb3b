-- What each move leaves of the ground of a search.
use Rattle.std.proofs.Common.{Bool, ◌≡◌, ℕ, ◌≤◌, ◌^◌, List, length, take, refl, sym, ap, subst, ◌∙◌, All, Vec, Global, ℤ}
use Rattle.std.proofs.lemmas.List.{take-append-le}
use Rattle.sat_terms.specs.Literals.{IsLiteralOf}
use Rattle.sat_terms.specs.Cubes.{IsCube}
use Rattle.search_region.specs.Steady.{Follows}
use Rattle.clause_arena.specs.Clauses.{Clauses}
use Rattle.chrono_trail.specs.Trails.{TrailView, IsTrail}
use Rattle.chrono_trail.specs.Reasons.{AreReasoned}
use Rattle.propagation.specs.Settled.{PropagatorView, IsSettled}
use Rattle.projected_decide.specs.Orders.{OrderView}
use Rattle.implicant_shrink.specs.Shrinking.{ShrinkerView, IsFor}
use Rattle.live_engine.specs.declared.search.Search.{Search}
use Rattle.live_engine.specs.Searching.{search_formula, IsGround, IsSameJob}

-- clauses, what propagates them and the trail, as a search stands on them
pub record StandsOn (s : Search) (arena : Clauses) (propagator : PropagatorView) (trail : TrailView) : Type 0 where
  pub base : arena.base ≤ length arena.clauses
  pub formula : take arena.base arena.clauses ≡ search_formula s
  pub named : All (All (IsLiteralOf s.variables)) arena.clauses
  pub follow : All (Follows (search_formula s)) arena.clauses
  pub known : propagator.known ≡ length arena.clauses
  pub places : length arena.clauses ≤ propagator.places
  pub settled : IsSettled arena.clauses propagator trail
  pub reasoned : AreReasoned arena.clauses trail.items
  pub variables : trail.variables ≡ s.trail.variables
  pub stands : IsTrail trail.variables trail.items trail.level
  pub own : propagator.variables ≡ s.propagator.variables

module _ (s : Search) (g : IsGround s) where
  pub same_stands : StandsOn s s.arena s.propagator s.trail
  same_stands = record {
    base = g.based;
    formula = refl;
    named = g.named;
    follow = g.follow;
    known = g.known;
    places = g.places;
    settled = g.settled;
    reasoned = g.reasoned;
    variables = refl;
    stands = g.stands;
    own = refl;
  }

  -- the job and its cubes may be others too
  pub ground_with : (arena : Clauses) (propagator : PropagatorView) (trail : TrailView) (order : OrderView) (shrinker : ShrinkerView) (prefix : List ℤ) (base : ℕ) (counts : Vec ℕ Global) (leaves : ℕ) (found : Vec (List ℤ) Global) →
      StandsOn s arena propagator trail → order.variables ≡ s.order.variables → order.order ≡ s.order.order → IsFor (search_formula s) shrinker →
      IsCube s.shown.items prefix → length counts.items ≡ length s.counts.items → leaves ≤ 2 ^ 62 → All (IsCube s.shown.items) found.items →
      IsGround (record s { arena = arena; propagator = propagator; trail = trail; order = order; shrinker = shrinker; prefix = prefix; base = base; counts = counts; leaves = leaves; found = found })
  ground_with arena propagator trail order shrinker prefix base counts leaves found on ordered same for_it cube long few cubes = record {
    small = g.small;
    trail = on.variables ∙ g.trail;
    stands = on.stands;
    propagator = on.own ∙ g.propagator;
    shown = g.shown;
    table = g.table;
    ordered = ordered ∙ g.ordered;
    order = same ∙ g.order;
    shrinker = subst (λ f. IsFor f shrinker) (sym on.formula) for_it;
    analyser = g.analyser;
    based = on.base;
    named = on.named;
    follow = subst (λ f. All (Follows f) arena.clauses) (sym on.formula) on.follow;
    known = on.known;
    places = on.places;
    settled = on.settled;
    reasoned = on.reasoned;
    counted = long ∙ g.counted;
    valued = g.valued;
    capped = few;
    prefix = cube;
    cubes = cubes;
  }

-- the values of a model may be others
pub ground_valued : (s : Search) → IsGround s → (values : Vec Bool Global) (has_model : Bool) (copied : ℕ) → length values.items ≡ length s.values.items →
    IsGround (record s { values = values; has_model = has_model; copied = copied })
ground_valued s g values has_model copied long = record {
  small = g.small;
  trail = g.trail;
  stands = g.stands;
  propagator = g.propagator;
  shown = g.shown;
  table = g.table;
  ordered = g.ordered;
  order = g.order;
  shrinker = g.shrinker;
  analyser = g.analyser;
  based = g.based;
  named = g.named;
  follow = g.follow;
  known = g.known;
  places = g.places;
  settled = g.settled;
  reasoned = g.reasoned;
  counted = g.counted;
  valued = long ∙ g.valued;
  capped = g.capped;
  prefix = g.prefix;
  cubes = g.cubes;
}

-- the formula stays as lemmas join behind it
pub formula_same : (old new : Search) → old.arena.base ≤ length old.arena.clauses → IsSameJob old new → search_formula new ≡ search_formula old
formula_same old new based same =
    ap (λ n. take n new.arena.clauses) same.formula
    ∙ ap (take old.arena.base) same.clauses
    ∙ take-append-le old.arena.base old.arena.clauses same.more based
