-- What a search is of, and how a job of it begins.
use Rattle.std.specs.Prelude.{◌≡◌, List, [], length, map, take, ℤ}
use Rattle.std.specs.List.{All}
use Rattle.sat_terms.specs.Literals.{IsLiteralOf}
use Rattle.sat_terms.specs.declared.subject.Subject.{Subject}
use Rattle.search_job.specs.Reasons.{assume_all}
use Rattle.clause_arena.specs.Once.{once}
use Rattle.projected_decide.specs.Orders.{order_of}
use Rattle.implicant_shrink.specs.Shrinking.{IsFor}
use Rattle.propagation.specs.Settled.{Watches}
use Rattle.live_engine.specs.declared.search.Search.{Search}
use Rattle.live_engine.specs.declared.starting.Machines.{Machines}
use Rattle.live_engine.specs.Searching.{search_formula, pictured_trail, IsSearching}

-- The machines are for this subject: the clauses are those of the formula, each literal once, the
-- propagator watches them, nothing is assigned, and the shown variables are decided first.
pub record AreOf (subject : Subject) (m : Machines) : Type 0 where
  pub clauses : m.arena.clauses ≡ map once subject.formula.clauses
  pub base : m.arena.base ≡ length subject.formula.clauses
  pub named : All (All (IsLiteralOf subject.formula.variables)) m.arena.clauses
  pub own : m.propagator.variables ≡ subject.formula.variables
  pub known : m.propagator.known ≡ length m.arena.clauses
  pub places : m.propagator.places ≡ length m.arena.clauses
  pub watches : Watches m.arena.clauses m.propagator
  pub variables : m.trail.variables ≡ subject.formula.variables
  pub items : m.trail.items ≡ []
  pub level : m.trail.level ≡ 0
  pub seen : m.trail.seen ≡ 0
  pub ordered : m.order.variables ≡ subject.formula.variables
  pub order : m.order.order ≡ order_of subject.formula.variables subject.shown
  pub analyser : m.analyser ≡ subject.formula.variables
  pub shrinker : IsFor (take m.arena.base m.arena.clauses) m.shrinker

-- The search is of this subject: its clauses are those of the formula, each literal once.
pub record IsOf (subject : Subject) (s : Search) : Type 0 where
  pub variables : s.variables ≡ subject.formula.variables
  pub formula : search_formula s ≡ map once subject.formula.clauses
  pub shown : s.shown.items ≡ subject.shown

-- The job of the prefix has begun: its literals are assumed, and nothing else has changed.
pub record Begins (old new : Search) (q : List ℤ) : Type 0 where
  pub searching : IsSearching new
  pub trail : pictured_trail new ≡ assume_all q []
  pub prefix : new.prefix ≡ q
  pub base : new.base ≡ 0
  pub leaves : new.leaves ≡ 0
  pub variables : new.variables ≡ old.variables
  pub arena : new.arena ≡ old.arena
  pub shown : new.shown ≡ old.shown
  pub found : new.found ≡ old.found
  pub values : new.values ≡ old.values
  pub has_model : new.has_model ≡ old.has_model
