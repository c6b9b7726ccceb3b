-- What a search keeps from move to move, and what there is at the end.
use Rattle.std.specs.Prelude.{◌≡◌, ℕ, ◌+◌, ◌<◌, ◌≤◌, ◌^◌, Bool, cond, List, [], ◌++◌, length, take, slice_index_or, ℤ, Option, Some, None}
use Rattle.std.specs.List.{All}
use Rattle.sat_terms.specs.Literals.{IsLiteralOf}
use Rattle.sat_terms.specs.Cubes.{IsCube, is_among}
use Rattle.sat_terms.specs.Subjects.{IsShown}
use Rattle.search_region.specs.Trail as picture
use Rattle.search_region.specs.Steady.{Follows}
use Rattle.search_region.specs.Region.{left_open}
use Rattle.search_region.specs.Work.{work}
use Rattle.search_job.specs.Weights.{weights, FitsWeighed}
use Rattle.search_job.specs.Working.{Working}
use Rattle.chrono_trail.specs.Trails.{IsTrail}
use Rattle.chrono_trail.specs.Pictures.{picture_of}
use Rattle.chrono_trail.specs.Reasons.{AreReasoned}
use Rattle.propagation.specs.Settled.{IsSettled}
use Rattle.projected_decide.specs.Orders.{order_of, HasPassed}
use Rattle.implicant_shrink.specs.Levels.{marked}
use Rattle.implicant_shrink.specs.Shrinking.{IsFor}
use Rattle.live_engine.specs.declared.search.Search.{Search}
use Rattle.live_engine.specs.Values.{hidden_literals, AreCopied}

-- The clauses of the formula, each literal once. Behind them stand the lemmas.
abbrev pub search_formula : Search → List (List ℤ)
search_formula s = take s.arena.base s.arena.clauses

-- The hidden literals of the last model, where there was one.
abbrev pub model_of : Search → Option (List ℤ)
model_of s =
    cond s.has_model (Some (hidden_literals s.variables s.shown.items (marked s.values.items))) None

-- The search's trail as the picture has it.
abbrev pub pictured_trail : Search → List picture.Item
pictured_trail s = picture_of s.arena.clauses s.trail.items

-- What is left to do below the decisions of the trail. Each move leaves less.
abbrev pub left : Search → ℕ
left s = work s.variables (pictured_trail s)

-- How many projected assignments are still open. Each leaf leaves fewer.
abbrev pub open_weight : Search → ℕ
open_weight s =
    weights (length s.shown.items) (left_open (is_among s.shown.items) s.base (pictured_trail s))

-- How many leaves there were when the decision of a level was made.
abbrev pub count_of : Search → ℕ → ℕ
count_of s k = slice_index_or s.counts.items k 0

-- The table tells which of the variables 1 to n are shown.
pub record TellsShown (n : ℕ) (p : List ℕ) (table : List Bool) : Type 0 where
  pub places : length table ≡ n + 1
  pub tells : (v : ℕ) → v ≤ n → marked table v ≡ is_among p v

-- What holds between jobs too: the clauses are of the variables 1 to `variables` and follow from
-- the formula, the propagator watches them, each literal that stands by one of them has it as its
-- reason, and there is a count for each level.
pub record IsGround (s : Search) : Type 0 where
  pub small : s.variables < 2 ^ 31
  pub trail : s.trail.variables ≡ s.variables
  pub stands : IsTrail s.trail.variables s.trail.items s.trail.level
  pub propagator : s.propagator.variables ≡ s.variables
  pub shown : IsShown s.variables s.shown.items
  pub table : TellsShown s.variables s.shown.items s.is_shown.items
  pub ordered : s.order.variables ≡ s.variables
  pub order : s.order.order ≡ order_of s.variables s.shown.items
  pub shrinker : IsFor (search_formula s) s.shrinker
  pub analyser : s.analyser ≡ s.variables
  pub based : s.arena.base ≤ length s.arena.clauses
  pub named : All (All (IsLiteralOf s.variables)) s.arena.clauses
  pub follow : All (Follows (search_formula s)) s.arena.clauses
  pub known : s.propagator.known ≡ length s.arena.clauses
  pub places : length s.arena.clauses ≤ s.propagator.places
  pub settled : IsSettled s.arena.clauses s.propagator s.trail
  pub reasoned : AreReasoned s.arena.clauses s.trail.items
  pub counted : length s.counts.items ≡ s.variables + 1
  pub valued : length s.values.items ≡ s.variables + 1
  pub capped : s.leaves ≤ 2 ^ 62
  pub prefix : IsCube s.shown.items s.prefix
  pub cubes : All (IsCube s.shown.items) s.found.items

-- The job of the prefix runs.
pub record IsSearching (s : Search) : Type 0 where
  pub ground : IsGround s
  pub working : Working (search_formula s) (is_among s.shown.items) (length s.shown.items) s.base
      (count_of s) s.prefix (pictured_trail s) s.found.items s.leaves
  pub current : s.trail.level ≡ picture.depth (pictured_trail s)
  pub passed : HasPassed s.trail.items s.order
  pub copied : AreCopied s.trail.items s.copied s.values.items

-- Its prefix is done: what was found fits it, and nothing is left open.
pub record IsExhausted (s : Search) : Type 0 where
  pub ground : IsGround s
  pub fits : FitsWeighed (search_formula s) (is_among s.shown.items) (length s.shown.items) s.prefix
      s.found.items [] s.leaves

-- The job is the same, over the same formula. Lemmas may have joined behind the clauses.
pub record IsSameJob (old new : Search) : Type 0 where
  pub variables : new.variables ≡ old.variables
  pub formula : new.arena.base ≡ old.arena.base
  pub more : List (List ℤ)
  pub clauses : new.arena.clauses ≡ old.arena.clauses ++ more
  pub shown : new.shown ≡ old.shown
  pub prefix : new.prefix ≡ old.prefix
  pub base : new.base ≡ old.base
  pub sent : new.sent ≡ old.sent

-- And it has the same leaves.
pub record KeepsLeaves (old new : Search) : Type 0 where
  pub job : IsSameJob old new
  pub found : new.found ≡ old.found
  pub leaves : new.leaves ≡ old.leaves
  pub values : new.values ≡ old.values
  pub has_model : new.has_model ≡ old.has_model
  pub weight : open_weight new ≤ open_weight old

-- A move was made, and there is less left to do.
pub record RunsOn (old new : Search) : Type 0 where
  pub searching : IsSearching new
  pub keeps : KeepsLeaves old new
  pub less : left new < left old
