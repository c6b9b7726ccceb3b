-- What contracts see of an engine, and what each engine keeps.
use Rattle.std.specs.Prelude.{◌≡◌, ◌≢◌, ℕ, ◌+◌, ◌<◌, ◌≤◌, Bool, true, false, cond, nat_le, List, [], ◌++◌, length, filter, drop, ℤ, pos, neg_ℤ, Option, Some, None, option_to_list}
use Rattle.std.specs.List.{All}
use Rattle.sat_terms.specs.Cubes.{has_literal}
use Rattle.sat_terms.specs.declared.subject.Subject.{Subject}
use Rattle.search_region.specs.Steady.{Follows}
use Rattle.search_job.specs.Open.{untried_cubes}
use Rattle.search_job.specs.Same.{front_cube}
use Rattle.search_job.specs.Weights.{weights}
use Rattle.prefix_jobs.specs.declared.outcome.Outcome.{Outcome}
use Rattle.prefix_jobs.specs.Outcomes.{FitsPrefix}
use Rattle.live_engine.specs.declared.search.Search.{Search}
use Rattle.live_engine.specs.declared.search.Phase.{Phase}
use Rattle.live_engine.specs.declared.search.Phase.TheVariants.{Idle, Running, Over}
use Rattle.live_engine.specs.declared.search.Leaf.{Leaf}
use Rattle.live_engine.specs.declared.search.Leaf.TheVariants.{Found, Dead, Ended}
use Rattle.live_engine.specs.Searching.{pictured_trail, model_of, IsGround, IsSearching, IsExhausted}
use Rattle.live_engine.specs.Starts.{IsOf}
use Rattle.live_engine.specs.Steps.{counted, HasFound}

-- A lemma that may be sent to others: it has at most 8 literals.
abbrev pub may_be_sent : List ℤ → Bool
may_be_sent c = nat_le (length c) 8

-- An engine of a subject: the prefix of its job, if it has one; the cubes that the job found; the
-- prefixes that it has still to try, the lowest branch first; the one that it is in, which is gone
-- once nothing is left to try; how many leaves it had; and the hidden literals of the last model of
-- which a cube was found. Its clauses are those of the formula, each literal once, and lemmas
-- behind them. Of the lemmas that may be sent those since the last job began, or a clause was
-- imported, are unsent.
pub record EngineView : Type 0 where
  pub subject : Subject
  pub job : Option (List ℤ)
  pub found : List (List ℤ)
  pub untried : List (List ℤ)
  pub here : Option (List ℤ)
  pub leaves : ℕ
  pub model : Option (List ℤ)
  pub clauses : List (List ℤ)
  pub unsent : List (List ℤ)

-- What the literals say of a variable.
abbrev pub value_in_list : List ℤ → ℕ → Option Bool
value_in_list w v =
    cond (has_literal w (pos v)) (Some true)
    (cond (has_literal w (neg_ℤ (pos v))) (Some false) None)

-- What the last model says of a hidden variable, where there was one.
abbrev pub value_told : Option (List ℤ) → ℕ → Option Bool
value_told None v = None
value_told (Some w) v = value_in_list w v

-- What is left of the job.
abbrev pub open_cubes : EngineView → List (List ℤ)
open_cubes e = e.untried ++ option_to_list e.here

-- How many projected assignments are still open.
abbrev pub open_weight : EngineView → ℕ
open_weight e = weights (length e.subject.shown) (open_cubes e)

abbrev pub job_of : Search → Phase → Option (List ℤ)
job_of s Idle = None
job_of s Running = Some s.prefix
job_of s Over = Some s.prefix

abbrev pub untried_of : Search → Phase → List (List ℤ)
untried_of s Idle = []
untried_of s Running = untried_cubes s.shown.items s.base (pictured_trail s)
untried_of s Over = []

abbrev pub here_of : Search → Phase → Option (List ℤ)
here_of s Idle = None
here_of s Running = Some (front_cube (pictured_trail s) s.shown.items)
here_of s Over = None

abbrev pub unsent_of : Search → List (List ℤ)
unsent_of s = filter may_be_sent (drop (s.arena.base + s.sent) s.arena.clauses)

abbrev pub engine_view : Subject → Search → Phase → EngineView
engine_view subject s phase = record {
  subject = subject;
  job = job_of s phase;
  found = s.found.items;
  untried = untried_of s phase;
  here = here_of s phase;
  leaves = s.leaves;
  model = model_of s;
  clauses = s.arena.clauses;
  unsent = unsent_of s;
}

-- Between jobs nothing is found, and no leaf is counted.
pub record IsIdle (s : Search) : Type 0 where
  pub ground : IsGround s
  pub found : s.found.items ≡ []
  pub leaves : s.leaves ≡ 0

abbrev pub IsInPhase : Search → Phase → Type 0
IsInPhase s Idle = IsIdle s
IsInPhase s Running = IsSearching s
IsInPhase s Over = IsExhausted s

pub record IsEngine (subject : Subject) (s : Search) (phase : Phase) : Type 0 where
  pub of : IsOf subject s
  pub state : IsInPhase s phase
  pub sent : s.arena.base + s.sent ≤ length s.arena.clauses

-- What the job comes to, if it ends here.
abbrev pub outcome_of : EngineView → Outcome
outcome_of e = record { cubes = e.found; rest = open_cubes e; kept = None; leaves = e.leaves }

-- What the job found and left open fits its prefix.
abbrev pub FitsJob : EngineView → Type 0
FitsJob e = (q : List ℤ) → e.job ≡ Some q →
    FitsPrefix e.subject.formula.clauses e.subject.shown q (outcome_of e)

-- The job of the prefix q has started, and is just there.
pub record HasStarted (old new : EngineView) (q : List ℤ) : Type 0 where
  pub subject : new.subject ≡ old.subject
  pub job : new.job ≡ Some q
  pub found : new.found ≡ []
  pub untried : new.untried ≡ []
  pub here : new.here ≡ Some q
  pub leaves : new.leaves ≡ 0
  pub model : new.model ≡ old.model
  pub clauses : new.clauses ≡ old.clauses
  pub unsent : new.unsent ≡ []
  pub fits : FitsJob new

-- Lemmas joined behind the clauses, each of which follows from the formula.
pub record Learns (old new : EngineView) : Type 0 where
  pub more : List (List ℤ)
  pub follow : All (Follows old.subject.formula.clauses) more
  pub clauses : new.clauses ≡ old.clauses ++ more
  pub unsent : new.unsent ≡ old.unsent ++ filter may_be_sent more

-- The engine came to a leaf, and there is less open.
pub record ComesToLeafOf (old new : EngineView) (leaf : Leaf) : Type 0 where
  pub some : old.here ≢ None
  pub subject : new.subject ≡ old.subject
  pub job : new.job ≡ old.job
  pub found : HasFound old.subject.formula.clauses old.subject.formula.variables old.subject.shown
      leaf old.found new.found old.model new.model
  pub leaves : new.leaves ≡ counted old.leaves
  pub less : open_weight new < open_weight old
  pub learns : Learns old new

-- Nothing was left to try, and nothing has changed.
pub record HasEnded (old new : EngineView) : Type 0 where
  pub none : old.here ≡ None
  pub untried : old.untried ≡ []
  pub same : new ≡ old

-- What a call for a leaf does. The job has ended exactly where the engine is in no prefix any more.
abbrev pub Leafs : EngineView → EngineView → Leaf → Type 0
Leafs old new Found = ComesToLeafOf old new Found
Leafs old new Dead = ComesToLeafOf old new Dead
Leafs old new Ended = HasEnded old new
