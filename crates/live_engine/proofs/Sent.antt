-- Lemmas that join, and which of them are still to be sent.
use Rattle.std.proofs.Common.{◌≡◌, ℕ, ◌+◌, ◌≤◌, List, [], ◌∷◌, ◌++◌, length, get_or, drop, map, filter, ℤ, ap, ap₂, subst, ◌∙◌, arith, All, length-append}
use Rattle.std.proofs.lemmas.List.{drop-append-le, drop_all}
use Rattle.std.proofs.lemmas.List.Elements.{All-tail, filter-append}
use Rattle.sat_terms.specs.declared.subject.Subject.{Subject}
use Rattle.search_region.specs.Steady.{Follows}
use Rattle.clause_arena.specs.Once.{once}
use Rattle.clause_arena.proofs.Meaning.{once_keeps_truth}
use Rattle.live_engine.specs.declared.search.Search.{Search}
use Rattle.live_engine.specs.declared.search.Phase.{Phase}
use Rattle.live_engine.specs.declared.search.Phase.TheVariants.{Idle, Running, Over}
use Rattle.live_engine.specs.Searching.{search_formula, IsGround, IsSearching, IsSameJob}
use Rattle.live_engine.specs.Starts.{IsOf}
use Rattle.live_engine.specs.Engines.{IsInPhase, engine_view, unsent_of, may_be_sent, Learns}

all_after : {X : Type 0} (P : X → Type 0) (xs ys : List X) → All P (xs ++ ys) → All P ys
all_after P [] ys h = h
all_after P (x ∷ xs) ys h = all_after P xs ys (All-tail P x (xs ++ ys) h)

-- what follows from the formula does so with each literal once
pub follows_once : (f : List (List ℤ)) (c : List ℤ) → Follows (map once f) c → Follows f c
follows_once f c h t model = h t (once_keeps_truth f t ∙ model)

all_follow_once : (f more : List (List ℤ)) → All (Follows (map once f)) more → All (Follows f) more
all_follow_once f more h = λ k d inside. follows_once f (get_or more k d) (h k d inside)

-- a move that may add lemmas
pub learns : (subject : Subject) (old new : Search) (phase after : Phase) → IsOf subject new → IsGround new → IsSameJob old new → old.arena.base + old.sent ≤ length old.arena.clauses →
    Learns (engine_view subject old phase) (engine_view subject new after)
learns subject old new phase after of ground job within = record {
  more = job.more;
  follow = all_follow_once subject.formula.clauses job.more
      (subst (λ f. All (Follows f) job.more) of.formula (all_after (Follows (search_formula new)) old.arena.clauses job.more (subst (All (Follows (search_formula new))) job.clauses ground.follow)));
  clauses = job.clauses;
  unsent = ap₂ (λ n cs. filter may_be_sent (drop n cs)) (ap₂ (λ b k. b + k) job.formula job.sent) job.clauses
      ∙ ap (filter may_be_sent) (drop-append-le (old.arena.base + old.sent) old.arena.clauses job.more within)
      ∙ filter-append may_be_sent (drop (old.arena.base + old.sent) old.arena.clauses) job.more;
}

-- what is to be sent stays within the lemmas
pub within_on : (old new : Search) → IsSameJob old new → old.arena.base + old.sent ≤ length old.arena.clauses → new.arena.base + new.sent ≤ length new.arena.clauses
within_on old new job within =
    let base = job.formula in
    let sent = job.sent in
    let long = ap length job.clauses in
    let both = length-append old.arena.clauses job.more in
    omega arith

-- none is to be sent
pub skipped : (new : Search) → new.arena.base + new.sent ≡ length new.arena.clauses → unsent_of new ≡ []
skipped new all = ap (filter may_be_sent) (drop_all (new.arena.base + new.sent) new.arena.clauses (omega arith))

-- ---- the search with another count of lemmas that were sent

pub ground_sent : (s : Search) (n : ℕ) → IsGround s → IsGround (record s { sent = n })
ground_sent s n g = record {
  small = g.small;
  trail = g.trail;
  stands = g.stands;
  propagator = g.propagator;
  shown = g.shown;
  table = g.table;
  ordered = g.ordered;
  order = g.order;
  shrinker = g.shrinker;
  analyser = g.analyser;
  based = g.based;
  named = g.named;
  follow = g.follow;
  known = g.known;
  places = g.places;
  settled = g.settled;
  reasoned = g.reasoned;
  counted = g.counted;
  valued = g.valued;
  capped = g.capped;
  prefix = g.prefix;
  cubes = g.cubes;
}

pub searching_sent : (s : Search) (n : ℕ) → IsSearching s → IsSearching (record s { sent = n })
searching_sent s n h = record { ground = ground_sent s n h.ground; working = h.working; current = h.current; passed = h.passed; copied = h.copied }

pub phase_sent : (s : Search) (n : ℕ) (phase : Phase) → IsInPhase s phase → IsInPhase (record s { sent = n }) phase
phase_sent s n Idle h = record { ground = ground_sent s n h.ground; found = h.found; leaves = h.leaves }
phase_sent s n Running h = searching_sent s n h
phase_sent s n Over h = record { ground = ground_sent s n h.ground; fits = h.fits }
