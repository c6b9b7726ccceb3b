-- What the engine's callers see of a search.
use Rattle.std.proofs.Common.{cond, ◌||◌, true, ◌≡◌, ℕ, ◌+◌, ◌<◌, ◌≤◌, Bool, ◌&&◌, nat_lt, ℤ, neg_ℤ, List, [], ◌∷◌, ◌++◌, length, get_or, map, Some, None, refl, sym, ap, subst, subst₂, ◌∙◌, inl, inr, arith, All, Vec, Global, length-append}
use Rattle.std.proofs.lemmas.Bool.{and_parts, cases_Bool}
use Rattle.std.proofs.lemmas.List.Elements.{All-nil, All-weaker}
use Rattle.std.specs.List.Sorted.{IsStrictlyIncreasing}
use Rattle.sat_terms.specs.declared.subject.Subject.{Subject}
use Rattle.sat_terms.specs.Assignments.{IsGood}
use Rattle.sat_terms.specs.Cubes.{IsCube, is_among}
use Rattle.sat_terms.specs.Subjects.{IsShown}
use Rattle.search_region.specs.Trail as picture
use Rattle.search_region.specs.Steady.{Steady}
use Rattle.search_region.specs.Region.{front, untried, left_open, is_open}
use Rattle.search_job.specs.Open.{untried_cubes, left_cubes}
use Rattle.search_job.specs.Same.{front_cube, other_cube}
use Rattle.search_job.specs.Weights.{weights}
use Rattle.search_job.proofs.Open.{expose_fits}
use Rattle.search_job.proofs.Same.{front_same, other_same, same_weight}
use Rattle.search_job.proofs.Weights.{weights_push, weight_some}
use Rattle.prefix_jobs.specs.declared.outcome.Outcome.{Outcome}
use Rattle.prefix_jobs.specs.Outcomes.{FitsPrefix}
use Rattle.prefix_jobs.proofs.Joined.{expose_fits_prefix}
use Rattle.clause_arena.specs.Once.{once}
use Rattle.clause_arena.proofs.Meaning.{once_keeps_truth}
use Rattle.chrono_trail.specs.declared.item.Item.{Item}
use Rattle.chrono_trail.specs.Pictures.{pictured, picture_of}
use Rattle.chrono_trail.proofs.Room.{items_bound}
use Rattle.live_engine.specs.declared.search.Search.{Search}
use Rattle.live_engine.specs.declared.search.Leaf.{Leaf}
use Rattle.live_engine.specs.declared.search.Leaf.TheVariants.{Found, Dead, Ended}
use Rattle.live_engine.specs.declared.search.Phase.{Phase}
use Rattle.live_engine.specs.declared.search.Phase.TheVariants.{Idle, Running, Over}
use Rattle.live_engine.specs.Searching as searching
use Rattle.live_engine.specs.Searching.{search_formula, pictured_trail, count_of, IsGround, IsSearching, IsExhausted, IsSameJob}
use Rattle.live_engine.specs.Starts.{IsOf, Begins}
use Rattle.std.specs.List.{list_any, list_all}
use Rattle.std.proofs.lemmas.Bool.{and_from, or_cases, or_left, or_right}
use Rattle.sat_terms.specs.Cubes.{has_literal, has_pair}
use Rattle.search_job.specs.Reasons.{assume_all}
use Rattle.clause_arena.proofs.Meaning.{once_keeps_pairs}
use Rattle.clause_arena.proofs.Literals.{has_literal-once}
use Rattle.implicant_shrink.specs.Levels.{marked}
use Rattle.live_engine.specs.Values.{hidden_literals, IsImplicant}
use Rattle.live_engine.specs.Searching.{model_of}
use Rattle.live_engine.proofs.Fronts.{assumed_front, any_among}
use Rattle.live_engine.specs.Steps.{ComesToLeaf, ComesToLast, HasFound, FindsIn}
use Rattle.live_engine.specs.Engines.{IsEngine, IsInPhase, job_of, open_weight, engine_view, HasStarted, Learns, Leafs, FitsJob}
use Rattle.live_engine.proofs.Grounds.{ground_with, same_stands, formula_same}
use Rattle.clause_arena.specs.Clauses.{Clauses}
use Rattle.live_engine.proofs.Prefixes.{assumed_untried}
use Rattle.live_engine.proofs.Sent.{learns, skipped, searching_sent}

-- ---- what is untried, as cubes

-- there are at most as many as items
few_untried : (p : List ℕ) (base : ℕ) (trail : List picture.Item) → length (untried_cubes p base trail) ≤ length trail
few_untried p base [] = omega arith
few_untried p base (i ∷ older) =
    let rest = few_untried p base older in
    elim (cases_Bool (is_open (is_among p) base i)) [
      | inl opens ↦ let more = length-append (untried_cubes p base older) (other_cube i older p ∷ []) in rw opens (omega arith)
      | inr shut ↦ rw shut (omega arith)
    ]

picture_length : (f : List (List ℤ)) (items : List Item) → length (picture_of f items) ≡ length items
picture_length f [] = refl
picture_length f (i ∷ later) =
    let rest = picture_length f later in
    let more = length-append (picture_of f later) (pictured f i ∷ []) in
    omega arith

-- and they weigh as much as the prefixes
module _ (f : List (List ℤ)) (p : List ℕ) (up : IsStrictlyIncreasing p) (named : All (λ v. 0 < v) p) (base n : ℕ) where
  some : 0 < length p → 0 < get_or p 0 0
  some h = named 0 0 h

  untried_weights : (trail : List picture.Item) → Steady f (is_among p) trail → weights n (untried (is_among p) base trail) ≡ weights n (untried_cubes p base trail)
  untried_weights [] s = refl
  untried_weights (i ∷ older) s =
      let before = untried_weights older s.1 in
      elim (cases_Bool (is_open (is_among p) base i)) [
        | inr shut ↦ rw shut before
        | inl opens ↦
            let shows = (and_parts (picture.is_decided i.kind) (picture.seen (is_among p) i) (and_parts (picture.is_decided i.kind && picture.seen (is_among p) i) (nat_lt base i.level) opens).0).1 in
            let side = same_weight n (front (is_among p) older ++ neg_ℤ i.lit ∷ []) (other_cube i older p) (other_same f p up i older s.0 s.1 shows some) in
            let was = weights_push n (untried (is_among p) base older) (front (is_among p) older ++ neg_ℤ i.lit ∷ []) in
            let now = weights_push n (untried_cubes p base older) (other_cube i older p) in
            rw opens (omega arith)
      ]

  pub left_weights : (trail : List picture.Item) → Steady f (is_among p) trail → weights n (left_open (is_among p) base trail) ≡ weights n (left_cubes p base trail)
  left_weights trail s =
      let before = untried_weights trail s in
      let here = same_weight n (front (is_among p) trail) (front_cube trail p) (front_same f p up trail s some) in
      let was = weights_push n (untried (is_among p) base trail) (front (is_among p) trail) in
      let now = weights_push n (untried_cubes p base trail) (front_cube trail p) in
      omega arith

-- ---- outcomes

-- an outcome fits its prefix whether literals are repeated in the clauses or not
good_once : (f : List (List ℤ)) (p : List ℕ) (a : List Bool) → IsGood (map once f) p a → IsGood f p a
good_once f p a g = record { model = g.model; meets = sym (once_keeps_truth f g.model) ∙ g.meets; projects = g.projects }

once_good : (f : List (List ℤ)) (p : List ℕ) (a : List Bool) → IsGood f p a → IsGood (map once f) p a
once_good f p a g = record { model = g.model; meets = once_keeps_truth f g.model ∙ g.meets; projects = g.projects }

pub fits_once : (f : List (List ℤ)) (p : List ℕ) (q : List ℤ) (o : Outcome) → FitsPrefix (map once f) p q o → FitsPrefix f p q o
fits_once f p q o h = record {
  over = h.over;
  disjoint = h.disjoint;
  inside = h.inside;
  good = λ a long lies. good_once f p a (h.good a long lies);
  cover = λ a long lies good. h.cover a long lies (once_good f p a good);
  weighs = h.weighs;
  few = h.few;
}

module _ (subject : Subject) (s : Search) (of : IsOf subject s) where
  pub fits_running : IsSearching s → FitsPrefix subject.formula.clauses subject.shown s.prefix
      (record { cubes = s.found.items; rest = left_cubes s.shown.items s.base (pictured_trail s); kept = None; leaves = s.leaves })
  fits_running h =
      let shown = h.ground.shown in
      let bound = items_bound s.trail.variables s.trail.items s.trail.level h.ground.stands in
      let long = picture_length s.arena.clauses s.trail.items in
      let few = few_untried s.shown.items s.base (pictured_trail s) in
      let all = length-append (untried_cubes s.shown.items s.base (pictured_trail s)) (front_cube (pictured_trail s) s.shown.items ∷ []) in
      let same = h.ground.trail in
      let small = h.ground.small in
      fits_once subject.formula.clauses subject.shown s.prefix (record { cubes = s.found.items; rest = left_cubes s.shown.items s.base (pictured_trail s); kept = None; leaves = s.leaves })
      (subst₂ (λ f p. FitsPrefix f p s.prefix (record { cubes = s.found.items; rest = left_cubes s.shown.items s.base (pictured_trail s); kept = None; leaves = s.leaves })) of.formula of.shown
      (expose_fits_prefix (search_formula s) s.shown.items s.prefix s.found.items (left_cubes s.shown.items s.base (pictured_trail s)) s.leaves
      shown.rising h.ground.prefix h.ground.cubes
      (expose_fits (search_formula s) s.shown.items shown.rising (All-weaker (λ v. (0 < v) × (v ≤ s.variables)) (λ v. 0 < v) (λ v k. k.0) s.shown.items shown.named)
      s.base (length s.shown.items) (count_of s) s.prefix (pictured_trail s) s.found.items s.leaves h.working)
      (omega arith)))

  pub fits_closed : IsExhausted s → FitsPrefix subject.formula.clauses subject.shown s.prefix
      (record { cubes = s.found.items; rest = []; kept = None; leaves = s.leaves })
  fits_closed h =
      fits_once subject.formula.clauses subject.shown s.prefix (record { cubes = s.found.items; rest = []; kept = None; leaves = s.leaves })
      (subst₂ (λ f p. FitsPrefix f p s.prefix (record { cubes = s.found.items; rest = []; kept = None; leaves = s.leaves })) of.formula of.shown
      (expose_fits_prefix (search_formula s) s.shown.items s.prefix s.found.items [] s.leaves h.ground.shown.rising h.ground.prefix h.ground.cubes
      (record { over = All-nil (IsCube s.shown.items); fits = h.fits }) (omega arith)))

  pub weighs_view : IsSearching s → open_weight (engine_view subject s Running) ≡ searching.open_weight s
  weighs_view h =
      ap (λ p. weights (length p) (left_cubes s.shown.items s.base (pictured_trail s))) (sym of.shown)
      ∙ sym (left_weights (search_formula s) s.shown.items h.ground.shown.rising
      (All-weaker (λ v. (0 < v) × (v ≤ s.variables)) (λ v. 0 < v) (λ v k. k.0) s.shown.items h.ground.shown.named)
      s.base (length s.shown.items) (pictured_trail s) h.working.running.steady)

  same_some : (x r : List ℤ) → Some x ≡ Some r → x ≡ r
  same_some x r e = cc

  pub job_runs : IsSearching s → FitsJob (engine_view subject s Running)
  job_runs h r told = subst (λ x. FitsPrefix subject.formula.clauses subject.shown x (record { cubes = s.found.items; rest = left_cubes s.shown.items s.base (pictured_trail s); kept = None; leaves = s.leaves }))
      (same_some s.prefix r told) (fits_running h)

  pub job_over : IsExhausted s → FitsJob (engine_view subject s Over)
  job_over h r told = subst (λ x. FitsPrefix subject.formula.clauses subject.shown x (record { cubes = s.found.items; rest = []; kept = None; leaves = s.leaves }))
      (same_some s.prefix r told) (fits_closed h)

-- a job that is the same is one of the same subject
pub of_same : (subject : Subject) (old new : Search) → IsOf subject old → old.arena.base ≤ length old.arena.clauses → IsSameJob old new → IsOf subject new
of_same subject old new of based same = record {
  variables = same.variables ∙ of.variables;
  formula = formula_same old new based same ∙ of.formula;
  shown = ap (λ v. v.items) same.shown ∙ of.shown;
}

-- ---- clauses once, and as they were said

implicant_once : (f : List (List ℤ)) (c w : List ℤ) → IsImplicant (map once f) c w → IsImplicant f c w
implicant_once [] c w h = h
implicant_once (d ∷ f) c w h =
    let either : ℤ → Bool = λ l. has_literal c l || has_literal w l in
    let (now, rest) = and_parts (has_pair (once d) || list_any (λ l. has_literal c l || has_literal w l) (once d)) (list_all (λ e. has_pair e || list_any (λ l. has_literal c l || has_literal w l) e) (map once f)) h in
    and_from (has_pair d || list_any (λ l. has_literal c l || has_literal w l) d) (list_all (λ e. has_pair e || list_any (λ l. has_literal c l || has_literal w l) e) f)
    (subst (λ b. (b || list_any (λ l. has_literal c l || has_literal w l) d) ≡ true) (once_keeps_pairs d)
    (elim (or_cases (has_pair (once d)) (list_any (λ l. has_literal c l || has_literal w l) (once d)) now) [
      | inl pair ↦ or_left (has_pair (once d)) (list_any (λ l. has_literal c l || has_literal w l) d) pair
      | inr some ↦ or_right (has_pair (once d)) (list_any (λ l. has_literal c l || has_literal w l) d)
          (any_among (λ l. has_literal c l || has_literal w l) (once d) d (λ l there. sym (has_literal-once d l) ∙ there) some)
    ])) (implicant_once f c w rest)

-- ---- a leaf

module _ (subject : Subject) (s : Search) (of : IsOf subject s) (h : IsSearching s) (found : Vec (List ℤ) Global) (same : found.items ≡ s.found.items) (within : s.arena.base + s.sent ≤ length s.arena.clauses) (new : Search) where
  pub of_leaf : IsSameJob (record s { found = found }) new → IsOf subject new
  of_leaf job = of_same subject (record s { found = found }) new (record { variables = of.variables; formula = of.formula; shown = of.shown }) h.ground.based job

  job_from : IsSameJob (record s { found = found }) new → IsSameJob s new
  job_from job = record {
    variables = job.variables;
    formula = job.formula;
    more = job.more;
    clauses = job.clauses;
    shown = job.shown;
    prefix = job.prefix;
    base = job.base;
    sent = job.sent;
  }

  goes : (leaf : Leaf) → ComesToLeaf (record s { found = found }) new leaf → open_weight (engine_view subject new Running) < open_weight (engine_view subject s Running)
  goes leaf comes =
      let was = weighs_view subject s of h in
      let now = weighs_view subject new (of_leaf comes.job) comes.searching in
      let less = comes.less in
      let goal_is : open_weight (engine_view subject new Running) < open_weight (engine_view subject s Running) = omega arith in goal_is

  ends : open_weight (engine_view subject new Over) < open_weight (engine_view subject s Running)
  ends =
      let n = length subject.shown in
      let both = weights_push n (untried_cubes s.shown.items s.base (pictured_trail s)) (front_cube (pictured_trail s) s.shown.items) in
      let some = weight_some n (front_cube (pictured_trail s) s.shown.items) in
      let goal_is : open_weight (engine_view subject new Over) < open_weight (engine_view subject s Running) = omega arith in goal_is

  -- what was found, over the subject
  finds : (leaf : Leaf) → FindsIn (record s { found = found }) new leaf →
      HasFound subject.formula.clauses subject.formula.variables subject.shown leaf s.found.items new.found.items (model_of s) (model_of new)
  finds leaf h =
      over leaf (subst₂ (λ n p. HasFound (search_formula s) n p leaf s.found.items new.found.items (model_of s) (model_of new)) of.variables of.shown
      (subst (λ xs. HasFound (search_formula s) s.variables s.shown.items leaf xs new.found.items (model_of s) (model_of new)) same h))
    where
      over : (l : Leaf) → HasFound (search_formula s) subject.formula.variables subject.shown l s.found.items new.found.items (model_of s) (model_of new) →
          HasFound subject.formula.clauses subject.formula.variables subject.shown l s.found.items new.found.items (model_of s) (model_of new)
      over Found k = record {
        cube = k.cube;
        found = k.found;
        values = k.values;
        hidden = k.hidden;
        implicant = implicant_once subject.formula.clauses k.cube (hidden_literals subject.formula.variables subject.shown k.values)
            (subst (λ g. IsImplicant g k.cube (hidden_literals subject.formula.variables subject.shown k.values)) of.formula k.implicant);
      }
      over Dead k = k
      over Ended k = k

  pub leaf_goes : (leaf : Leaf) → ComesToLeaf (record s { found = found }) new leaf → Leafs (engine_view subject s Running) (engine_view subject new Running) leaf
  leaf_goes leaf comes = by_leaf leaf (goes leaf comes) (finds leaf comes.found)
    where
      taught : Learns (engine_view subject s Running) (engine_view subject new Running)
      taught = learns subject s new Running Running (of_leaf comes.job) comes.searching.ground (job_from comes.job) within

      by_leaf : (l : Leaf) → open_weight (engine_view subject new Running) < open_weight (engine_view subject s Running) →
          HasFound subject.formula.clauses subject.formula.variables subject.shown l s.found.items new.found.items (model_of s) (model_of new) →
          Leafs (engine_view subject s Running) (engine_view subject new Running) l
      by_leaf Found less found = record { some = λ e. cc; subject = refl; job = ap Some comes.job.prefix; found = found; leaves = comes.leaves; less = less; learns = taught }
      by_leaf Dead less found = record { some = λ e. cc; subject = refl; job = ap Some comes.job.prefix; found = found; leaves = comes.leaves; less = less; learns = taught }
      by_leaf Ended less found = absurd found

  pub leaf_last : (leaf : Leaf) → ComesToLast (record s { found = found }) new leaf → Leafs (engine_view subject s Running) (engine_view subject new Over) leaf
  leaf_last leaf comes = by_leaf leaf (finds leaf comes.found)
    where
      taught : Learns (engine_view subject s Running) (engine_view subject new Over)
      taught = learns subject s new Running Over (of_leaf comes.job) comes.closed.ground (job_from comes.job) within

      by_leaf : (l : Leaf) → HasFound subject.formula.clauses subject.formula.variables subject.shown l s.found.items new.found.items (model_of s) (model_of new) →
          Leafs (engine_view subject s Running) (engine_view subject new Over) l
      by_leaf Found found = record { some = λ e. cc; subject = refl; job = ap Some comes.job.prefix; found = found; leaves = comes.leaves; less = ends; learns = taught }
      by_leaf Dead found = record { some = λ e. cc; subject = refl; job = ap Some comes.job.prefix; found = found; leaves = comes.leaves; less = ends; learns = taught }
      by_leaf Ended found = absurd found

-- ---- a start

pub starts : (subject : Subject) (old new : Search) (q : List ℤ) (sent : ℕ) → IsOf subject old → IsShown old.variables old.shown.items → IsCube old.shown.items q → old.found.items ≡ [] → Begins old new q → new.arena.base + sent ≡ length new.arena.clauses →
    HasStarted (engine_view subject old Idle) (engine_view subject (record new { sent = sent }) Running) q
starts subject old new q sent of shown cube none b all = record {
  subject = refl;
  job = ap Some b.prefix;
  found = ap (λ v. v.items) b.found ∙ none;
  untried = ap (untried_cubes new.shown.items new.base) b.trail ∙ assumed_untried new.shown.items new.base q [] refl;
  here = ap (λ t. Some (front_cube t new.shown.items)) b.trail
      ∙ ap (λ (p : Vec ℕ Global). Some (front_cube (assume_all q []) p.items)) b.shown ∙ ap Some (assumed_front old.shown.items q shown.rising (All-weaker (λ v. (0 < v) × (v ≤ old.variables)) (λ v. 0 < v) (λ v k. k.0) old.shown.items shown.named) cube);
  leaves = b.leaves;
  model =
      ap (λ h. cond h (Some (hidden_literals new.variables new.shown.items (marked new.values.items))) None) b.has_model
      ∙ ap (λ n. cond old.has_model (Some (hidden_literals n new.shown.items (marked new.values.items))) None) b.variables
      ∙ ap (λ (v : Vec ℕ Global). cond old.has_model (Some (hidden_literals old.variables v.items (marked new.values.items))) None) b.shown
      ∙ ap (λ (v : Vec Bool Global). cond old.has_model (Some (hidden_literals old.variables old.shown.items (marked v.items))) None) b.values;
  clauses = ap (λ (a : Clauses). a.clauses) b.arena;
  unsent = skipped (record new { sent = sent }) all;
  fits = job_runs subject (record new { sent = sent })
      (record { variables = b.variables ∙ of.variables; formula = ap (λ a. search_formula (record old { arena = a })) b.arena ∙ of.formula; shown = ap (λ v. v.items) b.shown ∙ of.shown }) (searching_sent new sent b.searching);
}

-- an engine without a job is idle
pub idle_phase : (s : Search) (phase : Phase) → job_of s phase ≡ None → phase ≡ Idle
idle_phase s Idle e = refl
idle_phase s Running e = cc
idle_phase s Over e = cc

-- what a job found and left open fits its prefix at any time
pub fits_always : (subject : Subject) (s : Search) (phase : Phase) → IsEngine subject s phase → FitsJob (engine_view subject s phase)
fits_always subject s Idle h = λ q e. cc
fits_always subject s Running h = job_runs subject s h.of h.state
fits_always subject s Over h = job_over subject s h.of h.state

-- ---- an end

-- what holds between jobs holds at any time
grounded : (s : Search) (phase : Phase) → IsInPhase s phase → IsGround s
grounded s Idle h = h.ground
grounded s Running h = h.ground
grounded s Over h = h.ground

-- an engine whose job has ended, with nothing found and no leaf counted
pub ended : (subject : Subject) (s : Search) (phase : Phase) → IsEngine subject s phase → (found : Vec (List ℤ) Global) → found.items ≡ [] →
    IsEngine subject (record s { leaves = 0; found = found }) Idle
ended subject s phase h found none = let g = grounded s phase h.state in record {
  of = record { variables = h.of.variables; formula = h.of.formula; shown = h.of.shown };
  state = record {
    ground = ground_with s g s.arena s.propagator s.trail s.order s.shrinker s.prefix s.base s.counts 0 found
        (same_stands s g) refl refl g.shrinker g.prefix refl (omega arith) (subst (All (IsCube s.shown.items)) (sym none) (All-nil (IsCube s.shown.items)));
    found = none;
    leaves = refl;
  };
  sent = h.sent;
}
