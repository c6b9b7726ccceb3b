-- Giving the lowest untried prefix of a job away while the job goes on.
use Rattle.std.specs.Prelude.{◌≡◌, ℕ, suc, ◌+◌, ◌-◌, ◌<◌, ◌≤◌, true, not, List, [], ◌∷◌, length, filter, map, take, slice_index_or, ℤ, nat_abs, Option, Some, None}
use Rattle.sat_terms.specs.Cubes.{is_among, within}
use Rattle.search_region.specs.Trail as picture
use Rattle.search_region.specs.Region.{root}
use Rattle.search_job.specs.Give.{next_count}
use Rattle.search_job.specs.Open.{untried_cubes}
use Rattle.prefix_jobs.specs.declared.outcome.Outcome.{Outcome}
use Rattle.prefix_jobs.specs.Outcomes.{FitsPrefix}
use Rattle.chrono_trail.specs.declared.item.Item.{Item}
use Rattle.chrono_trail.specs.Items.{IsDecisionAt}
use Rattle.chrono_trail.specs.Pictures.{picture_of}
use Rattle.live_engine.specs.declared.search.Search.{Search}
use Rattle.live_engine.specs.Searching.{search_formula, pictured_trail, count_of, IsSearching}
use Rattle.live_engine.specs.Engines.{EngineView, open_weight}

-- The items before a place, as the picture has them.
abbrev pub pictured_before : Search → ℕ → List picture.Item
pictured_before s place = picture_of s.arena.clauses (take place s.trail.items)

-- The base's next decision stands at this place, and is a shown one.
pub record IsNextShown (s : Search) (place : ℕ) : Type 0 where
  pub above : s.base < s.trail.level
  pub decision : IsDecisionAt (suc s.base) s.trail.items place
  pub shows : (d : Item) →
      is_among s.shown.items (nat_abs (slice_index_or s.trail.items place d).lit) ≡ true

-- Where there is none, nothing is untried.
abbrev pub FindsNextShown : Search → Option ℕ → Type 0
FindsNextShown s None = untried_cubes s.shown.items s.base (pictured_trail s) ≡ []
FindsNextShown s (Some place) = IsNextShown s place

-- The items of the prefix that the job keeps are those before this place.
pub record IsKeptPlace (s : Search) (place : ℕ) : Type 0 where
  pub within : place ≤ length s.trail.items
  pub root : pictured_before s place ≡ root (suc s.base) (pictured_trail s)

-- How many of the leaves go with what is given away.
abbrev pub leaves_gone : Search → ℕ
leaves_gone s =
    next_count (is_among s.shown.items) (suc s.base) (count_of s) s.leaves (pictured_trail s)

-- The search goes on within the prefix, with the cubes within it and the leaves since.
pub record KeepsWithin (old new : Search) (prefix : List ℤ) (gone : ℕ) : Type 0 where
  pub found : new.found.items ≡ filter (λ c. within c prefix) old.found.items
  pub counts : new.counts.items ≡ map (λ k. k - gone) old.counts.items
  pub rest : new ≡ record old {
    prefix = prefix;
    base = suc old.base;
    counts = new.counts;
    leaves = old.leaves - gone;
    found = new.found;
  }

-- The search gave its lowest untried prefix away, and goes on within the one that it keeps.
pub record HandsOut (old new : Search) (given kept : List ℤ) (o : Outcome) : Type 0 where
  pub searching : IsSearching new
  pub keeps : KeepsWithin old new kept o.leaves
  pub first : untried_cubes old.shown.items old.base (pictured_trail old)
      ≡ given ∷ untried_cubes new.shown.items new.base (pictured_trail new)
  pub few : o.leaves ≤ old.leaves
  pub outcome : o ≡ record {
    cubes = filter (λ c. not (within c kept)) old.found.items;
    rest = given ∷ [];
    kept = Some kept;
    leaves = o.leaves;
  }
  pub fits : FitsPrefix (search_formula old) old.shown.items old.prefix o

abbrev pub HandsOutOrNot : Search → Search → Option Outcome → Type 0
HandsOutOrNot old new None =
    (untried_cubes old.shown.items old.base (pictured_trail old) ≡ []) × (new ≡ old)
HandsOutOrNot old new (Some o) =
    (given : List ℤ) × (kept : List ℤ) × HandsOut old new given kept o

-- The job gave its lowest untried prefix away, with the cubes found outside the prefix that it
-- keeps. The others stay, and nothing else has changed.
pub record HasGiven (old new : EngineView) (given kept : List ℤ) (o : Outcome) : Type 0 where
  pub untried : old.untried ≡ given ∷ new.untried
  pub outcome : o ≡ record {
    cubes = filter (λ c. not (within c kept)) old.found;
    rest = given ∷ [];
    kept = Some kept;
    leaves = o.leaves;
  }
  pub goes_on : new ≡ record old {
    job = Some kept;
    found = filter (λ c. within c kept) old.found;
    untried = new.untried;
    leaves = new.leaves;
  }
  pub leaves : new.leaves + o.leaves ≡ old.leaves
  pub less : open_weight new < open_weight old
  pub fits : (q : List ℤ) → old.job ≡ Some q →
      FitsPrefix old.subject.formula.clauses old.subject.shown q o

-- What a call for a give does: nothing, exactly where nothing is untried.
abbrev pub GivesOrNot : EngineView → EngineView → Option Outcome → Type 0
GivesOrNot old new None = (old.untried ≡ []) × (new ≡ old)
GivesOrNot old new (Some o) =
    (given : List ℤ) × (kept : List ℤ) × HasGiven old new given kept o
