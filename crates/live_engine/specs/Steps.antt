-- What each move of a search does.
use Rattle.std.specs.Prelude.{◌≡◌, ℕ, suc, ◌-◌, ◌<◌, ◌≤◌, ◌^◌, Bool, true, min, List, [], ◌∷◌, ◌++◌, length, filter, find, ℤ, neg_ℤ, nat_abs, Option, Some, None, MatchBool}
use Rattle.std.specs.List.{All}
use Rattle.sat_terms.specs.Literals.{IsLiteralOf}
use Rattle.sat_terms.specs.Cubes.{is_among}
use Rattle.search_region.specs.Steady.{Follows}
use Rattle.search_region.specs.Trail as picture
use Rattle.search_region.specs.ReadCube.{read_cube}
use Rattle.chrono_trail.specs.declared.item.Kind.{Kind}
use Rattle.chrono_trail.specs.declared.item.Kind.TheVariants.{Assumed, Decided, Flipped, Turned, Implied}
use Rattle.chrono_trail.specs.declared.item.Item.{Item}
use Rattle.chrono_trail.specs.Items.{decides, is_upto}
use Rattle.chrono_trail.specs.Reasons.{IsReasonAt}
use Rattle.chrono_trail.specs.Trails.{IsTrail, seen_back}
use Rattle.propagation.specs.Settled.{IsSettled}
use Rattle.projected_decide.specs.Orders.{is_set, HasPassed}
use Rattle.implicant_shrink.specs.Shrinking.{IsLeastFrom, IsFor}
use Rattle.live_engine.specs.declared.search.Search.{Search}
use Rattle.live_engine.specs.declared.search.Leaf.{Leaf}
use Rattle.live_engine.specs.declared.search.Leaf.TheVariants.{Found, Dead, Ended}
use Rattle.live_engine.specs.declared.search.Step.{Step}
use Rattle.live_engine.specs.declared.search.Step.TheVariants.{Goes, Last}
use Rattle.live_engine.specs.Values.{hidden_literals, IsImplicant, AreCopied}
use Rattle.live_engine.specs.Searching.{search_formula, pictured_trail, model_of, open_weight, IsSearching, IsExhausted, IsSameJob, RunsOn}

-- One leaf more. Their number stands still at 2^62.
abbrev pub counted : ℕ → ℕ
counted leaves = min (suc leaves) (2 ^ 62)

-- Each of the variables 1 to n has an item.
abbrev pub AreAllSet : ℕ → List Item → Type 0
AreAllSet n items = (v : ℕ) → 0 < v → v ≤ n → is_set items v ≡ true

-- Each variable is set. Nothing but the walk for a free one has changed.
pub record FindsAllSet (old new : Search) : Type 0 where
  pub searching : IsSearching new
  pub same : new ≡ record old { order = new.order }
  pub full : AreAllSet old.variables old.trail.items

-- A variable was decided, or each is set.
abbrev pub DecidesOrIsFull : Search → Search → Bool → Type 0
DecidesOrIsFull old new more = MatchBool more (RunsOn old new) (FindsAllSet old new)

-- The levels from this one on were taken back, and their variables put back.
pub record TakesBack (old new : Search) (level : ℕ) (decision : Item) : Type 0 where
  pub decided : find (decides level) old.trail.items ≡ Some decision
  pub items : new.trail.items ≡ filter (is_upto (level - 1)) old.trail.items
  pub current : new.trail.level ≡ level - 1
  pub variables : new.trail.variables ≡ old.trail.variables
  pub seen : new.trail.seen ≡ seen_back (level - 1) old.trail
  pub stands : IsTrail new.trail.variables new.trail.items new.trail.level
  pub passed : HasPassed new.trail.items new.order
  pub order : new.order ≡ record old.order { from = new.order.from }
  pub copied : AreCopied new.trail.items new.copied old.values.items
  pub rest : new ≡ record old { trail = new.trail; order = new.order; copied = new.copied }

-- The negation of a decision joins the trail on this level. Whether it is shown is told.
pub record PutsOther (old new : Search) (decision : Item) (level : ℕ) (kind : Kind)
    (shows : Bool) : Type 0 where
  pub items : new.trail.items
      ≡ old.trail.items ++ record { lit = neg_ℤ decision.lit; level = level; kind = kind } ∷ []
  pub current : new.trail.level ≡ old.trail.level
  pub variables : new.trail.variables ≡ old.trail.variables
  pub seen : new.trail.seen ≡ old.trail.seen
  pub stands : IsTrail new.trail.variables new.trail.items new.trail.level
  pub rest : new ≡ record old { trail = new.trail }
  pub told : shows ≡ is_among old.shown.items (nat_abs decision.lit)

-- A decision of level k may be turned over by this item: a flip stands on the level below, and a
-- literal that a clause turned has it as its reason, on its true level.
abbrev pub MayTurn : List (List ℤ) → List Item → ℕ → Item → Kind → Type 0
MayTurn clauses older k i Assumed = ⊥
MayTurn clauses older k i Decided = ⊥
MayTurn clauses older k i Flipped = i.level ≡ k - 1
MayTurn clauses older k i (Turned id) = (i.level ≤ k - 1) × IsReasonAt clauses older i id
MayTurn clauses older k i (Implied id) = ⊥

-- The decision of this level was turned over: the levels from it on were taken back, and its
-- negation stands below. A lemma may have joined. Whether the decision is shown is told.
pub record TurnsDecision (old new : Search) (level : ℕ) (shows : Bool) : Type 0 where
  pub decision : Item
  pub item : Item
  pub decided : find (decides level) old.trail.items ≡ Some decision
  pub negates : item.lit ≡ neg_ℤ decision.lit
  pub turns : MayTurn new.arena.clauses (filter (is_upto (level - 1)) old.trail.items) level item
      item.kind
  pub items : new.trail.items ≡ filter (is_upto (level - 1)) old.trail.items ++ item ∷ []
  pub current : new.trail.level ≡ level - 1
  pub variables : new.trail.variables ≡ old.trail.variables
  pub stands : IsTrail new.trail.variables new.trail.items new.trail.level
  pub passed : HasPassed new.trail.items new.order
  pub order : new.order ≡ record old.order { from = new.order.from }
  pub more : List (List ℤ)
  pub clauses : new.arena.clauses ≡ old.arena.clauses ++ more
  pub base : new.arena.base ≡ old.arena.base
  pub named : All (All (IsLiteralOf old.variables)) more
  pub follow : All (Follows (search_formula old)) more
  pub propagator : new.propagator.variables ≡ old.propagator.variables
  pub known : new.propagator.known ≡ length new.arena.clauses
  pub places : length new.arena.clauses ≤ new.propagator.places
  pub settled : IsSettled new.arena.clauses new.propagator new.trail
  pub rest : new ≡ record old {
    arena = new.arena;
    propagator = new.propagator;
    trail = new.trail;
    order = new.order;
    copied = new.copied;
  }
  pub copied : AreCopied new.trail.items new.copied old.values.items
  pub told : shows ≡ is_among old.shown.items (nat_abs decision.lit)

-- So it was, without a lemma: its negation stands on the level below.
pub record FlipsDecision (old new : Search) (level : ℕ) (shows : Bool) : Type 0 where
  pub turns : TurnsDecision old new level shows
  pub flipped : turns.item.kind ≡ Flipped
  pub clauses : new.arena ≡ old.arena

-- A cube was found, and the hidden literals of its model are told: with them it meets each clause.
pub record FindsCube (f : List (List ℤ)) (n : ℕ) (p : List ℕ) (old new : List (List ℤ))
    (told : Option (List ℤ)) : Type 0 where
  pub cube : List ℤ
  pub found : new ≡ old ++ cube ∷ []
  pub values : ℕ → Bool
  pub hidden : told ≡ Some (hidden_literals n p values)
  pub implicant : IsImplicant f cube (hidden_literals n p values)

-- What a leaf adds to the cubes found: one cube, or none. Without one the hidden literals told stay
-- those of the last model.
abbrev pub HasFound : List (List ℤ) → ℕ → List ℕ → Leaf → List (List ℤ) → List (List ℤ) →
    Option (List ℤ) → Option (List ℤ) → Type 0
HasFound f n p Found old new was told = FindsCube f n p old new told
HasFound f n p Dead old new was told = (new ≡ old) × (told ≡ was)
HasFound f n p Ended old new was told = ⊥

-- So it is in a search.
abbrev pub FindsIn : Search → Search → Leaf → Type 0
FindsIn old new leaf =
    HasFound (search_formula old) old.variables old.shown.items leaf old.found.items new.found.items
    (model_of old) (model_of new)

-- The search came to a leaf, and goes on with fewer assignments open.
pub record ComesToLeaf (old new : Search) (leaf : Leaf) : Type 0 where
  pub searching : IsSearching new
  pub job : IsSameJob old new
  pub found : FindsIn old new leaf
  pub leaves : new.leaves ≡ counted old.leaves
  pub less : open_weight new < open_weight old

-- It came to its last leaf.
pub record ComesToLast (old new : Search) (leaf : Leaf) : Type 0 where
  pub closed : IsExhausted new
  pub job : IsSameJob old new
  pub found : FindsIn old new leaf
  pub leaves : new.leaves ≡ counted old.leaves

abbrev pub ComesTo : Search → Search → Step → Type 0
ComesTo old new (Goes leaf) = ComesToLeaf old new leaf
ComesTo old new (Last leaf) = ComesToLast old new leaf

-- After a conflict: where its decision is hidden the search goes on, else it came to a leaf.
abbrev pub ConflictComesTo : Search → Search → Option Step → Type 0
ConflictComesTo old new None = RunsOn old new
ConflictComesTo old new (Some step) = ComesTo old new step

-- The level is the least one, from the base on, whose shown literals and all hidden ones meet the
-- formula and leave out no shown flip.
abbrev pub IsLeastEnough : Search → ℕ → Type 0
IsLeastEnough s level =
    IsLeastFrom s.base (is_among s.shown.items) (pictured_trail s) (search_formula s) level

-- The least level was found. Nothing but what is tried first has changed.
pub record ShrinksModel (old new : Search) (level : ℕ) : Type 0 where
  pub least : IsLeastEnough old level
  pub formula : IsFor (search_formula old) new.shrinker
  pub rest : new ≡ record old { shrinker = new.shrinker }

-- The values of a model were copied: each item of the trail says the same of its variable.
pub record CopiesModel (old new : Search) : Type 0 where
  pub long : length new.values.items ≡ length old.values.items
  pub all : new.copied ≡ length old.trail.items
  pub copied : AreCopied old.trail.items new.copied new.values.items
  pub some : new.has_model ≡ true
  pub rest : new ≡ record old {
    values = new.values;
    has_model = new.has_model;
    copied = new.copied;
  }

-- The shown literals up to this level.
abbrev pub cube_at_level : Search → ℕ → List ℤ
cube_at_level s level = read_cube (picture.upto level) (pictured_trail s) s.shown.items
