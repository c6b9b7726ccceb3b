-- What a conflict teaches, and whether it is kept.
use Rattle.std.specs.Prelude.{◌≡◌, ℕ, ◌+◌, ◌-◌, ◌<◌, ◌≤◌, Bool, List, [], ◌∷◌, ◌++◌, length, filter, find, take, ℤ, neg_ℤ, Option, Some, None, MatchBool, IfSome}
use Rattle.std.specs.List.{All}
use Rattle.sat_terms.specs.Literals.{IsLiteralOf}
use Rattle.search_region.specs.Steady.{Follows}
use Rattle.clause_arena.specs.Clauses.{without_long}
use Rattle.chrono_trail.specs.declared.item.Item.{Item}
use Rattle.chrono_trail.specs.Items.{decides, is_upto}
use Rattle.chrono_trail.specs.Clauses.{IsReason}
use Rattle.propagation.specs.Settled.{IsSettled}
use Rattle.live_engine.specs.declared.search.Search.{Search}
use Rattle.live_engine.specs.declared.learning.Taught.{Taught}
use Rattle.live_engine.specs.Searching.{search_formula, IsGround}

-- Once the levels from k on are taken back, the clause is a reason for the negation of the decision
-- of level k, on the level m below.
pub record TurnsAt (items : List Item) (k : ℕ) (c : List ℤ) (m : ℕ) : Type 0 where
  pub below : m < k
  pub reason : (d i : Item) → find (decides k) items ≡ Some d → i.lit ≡ neg_ℤ d.lit → i.level ≡ m →
      IsReason (filter (is_upto (k - 1)) items) i c

-- A clause that follows from the formula joined the arena. It may turn the decision of level k.
pub record Teaches (old new : Search) (k : ℕ) (taught : Taught) : Type 0 where
  pub clause : List ℤ
  pub follows : Follows (search_formula old) clause
  pub named : All (IsLiteralOf old.variables) clause
  pub clauses : new.arena.clauses ≡ old.arena.clauses ++ clause ∷ []
  pub base : new.arena.base ≡ old.arena.base
  pub id : taught.id ≡ length old.arena.clauses
  pub turns : IfSome taught.level (TurnsAt old.trail.items k clause)
  pub rest : new ≡ record old { arena = new.arena }

abbrev pub TeachesOrNot : Search → Search → ℕ → Option Taught → Type 0
TeachesOrNot old new k None = new ≡ old
TeachesOrNot old new k (Some taught) = Teaches old new k taught

-- The level m is that of the other literals, where something is asserted and they are below the
-- conflict's level.
abbrev pub AssertsBelow : Option ℤ → ℕ → ℕ → Option ℕ → Type 0
AssertsBelow asserts rest k None = Unit {0}
AssertsBelow asserts rest k (Some m) = (x : ℤ) × (asserts ≡ Some x) × (m ≡ rest) × (m < k)

-- The propagator has taken the last clause up. It may have marked fewer items as seen.
pub record TakesUp (old new : Search) (id : ℕ) : Type 0 where
  pub variables : new.propagator.variables ≡ old.propagator.variables
  pub known : new.propagator.known ≡ id + 1
  pub places : id + 1 ≤ new.propagator.places
  pub settled : IsSettled old.arena.clauses new.propagator new.trail
  pub trail : new.trail ≡ record old.trail { seen = new.trail.seen }
  pub rest : new ≡ record old { propagator = new.propagator; trail = new.trail }

-- The last clause went away again.
abbrev pub Forgets : Search → Search → ℕ → Type 0
Forgets old new id =
    new ≡ record old {
      arena = record { clauses = take id old.arena.clauses; base = old.arena.base };
    }

abbrev pub TakesUpOrForgets : Search → Search → ℕ → Bool → Type 0
TakesUpOrForgets old new id kept = MatchBool kept (TakesUp old new id) (Forgets old new id)

-- The lemmas of more than so many literals are dropped, with all items of the trail.
pub record DropsLemmas (old new : Search) (keep : ℕ) : Type 0 where
  pub ground : IsGround new
  pub items : new.trail.items ≡ []
  pub clauses : new.arena ≡ record {
    clauses = without_long old.arena.base keep old.arena.clauses;
    base = old.arena.base;
  }
  pub rest : new ≡ record old {
    arena = new.arena;
    propagator = new.propagator;
    trail = new.trail;
  }
