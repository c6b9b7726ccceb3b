-- The moves of the search that make its trail longer.
use Rattle.std.proofs.Common.{append-nil, ◌≡◌, ℕ, suc, ◌+◌, ◌<◌, ◌≤◌, Bool, true, false, ℤ, nat_abs, List, [], ◌∷◌, ◌++◌, length, get_or, set, Some, None, is_some, refl, sym, ap, subst, subst₂, ◌∙◌, arith, Vec, Global, get_or-set_same, get_or-set_other, length-set}
use Rattle.sat_terms.specs.Cubes.{is_among}
use Rattle.search_region.specs.Trail as picture
use Rattle.search_region.specs.Region.{left_open}
use Rattle.search_region.specs.Work.{work}
use Rattle.search_region.proofs.ReadCube.{all_among}
use Rattle.search_region.proofs.Work.{work_push}
use Rattle.search_job.specs.Weights.{weights, shown_count, AreShownUpto}
use Rattle.search_job.specs.Working.{Working}
use Rattle.search_job.proofs.Decide.{decide_keeps_working}
use Rattle.search_job.proofs.Same.{counts_shown}
use Rattle.chrono_trail.specs.declared.item.Kind.TheVariants.{Decided}
use Rattle.chrono_trail.specs.declared.item.Item.{Item}
use Rattle.chrono_trail.specs.Items.{is_decision, decisions_from}
use Rattle.chrono_trail.specs.Trails.{TrailView, IsTrail}
use Rattle.chrono_trail.specs.Pictures.{pictured, picture_of}
use Rattle.chrono_trail.proofs.Decisions.{decisions_count}
use Rattle.chrono_trail.proofs.Pictures.{picture-push, is_assigned-picture}
use Rattle.chrono_trail.proofs.Room.{items_bound}
use Rattle.propagation.specs.Settled.{PropagatorView, IsSettled}
use Rattle.propagation.specs.Steps.{Propagates}
use Rattle.propagation.proofs.Settled.{settled_push}
use Rattle.live_engine.specs.declared.search.Search.{Search}
use Rattle.live_engine.specs.Searching.{search_formula, pictured_trail, left, count_of, IsSearching, IsSameJob, KeepsLeaves, RunsOn}
use Rattle.clause_arena.specs.Clauses.{Clauses}
use Rattle.chrono_trail.specs.Reasons.{AreReasoned}
use Rattle.chrono_trail.proofs.Reasoned.{needs_none, appending_keeps}
use Rattle.propagation.proofs.Reasons.{propagation_keeps_reasons}
use Rattle.projected_decide.specs.Orders.{OrderView, next_decision, is_set, HasPassed}
use Rattle.projected_decide.specs.Laws.{IsLowestFree}
use Rattle.projected_decide.proofs.Lowest.{decisions_are_lowest, none_means_full}
use Rattle.projected_decide.proofs.Moving.{appending_keeps_passed}
use Rattle.live_engine.specs.Steps.{AreAllSet}
use Rattle.live_engine.specs.Values.{AreCopied}
use Rattle.live_engine.proofs.Copies.{copied_more}
use Rattle.live_engine.proofs.Grounds.{ground_with, same_stands}
use Rattle.live_engine.proofs.Implied.{propagation_works, WorksOn}
use Rattle.live_engine.proofs.Decided.{decide_opens}

-- the job is the same, and no clause has joined
pub same_job : (old new : Search) → new.variables ≡ old.variables → new.arena ≡ old.arena → new.shown ≡ old.shown → new.prefix ≡ old.prefix → new.base ≡ old.base → new.sent ≡ old.sent → IsSameJob old new
same_job old new variables arena shown prefix base sent = record {
  variables = variables;
  formula = ap (λ (a : Clauses). a.base) arena;
  more = [];
  clauses = ap (λ (a : Clauses). a.clauses) arena ∙ sym (append-nil old.arena.clauses);
  shown = shown;
  prefix = prefix;
  base = base;
  sent = sent;
}

-- ---- propagation

-- the search with another propagator and another trail
abbrev pub propagated : Search → PropagatorView → TrailView → Search
propagated old propagator trail = record old { propagator = propagator; trail = trail }

module _ (old : Search) (h : IsSearching old) (propagator : PropagatorView) (trail : TrailView) (steps : Propagates old.arena.clauses old.trail.items trail.items) where
  works : WorksOn (search_formula old) old.arena.clauses (is_among old.shown.items) (length old.shown.items) old.base old.variables (count_of old) old.prefix old.found.items old.leaves h.ground.named h.ground.follow old.trail.items trail.items
  works = subst (WorksOn (search_formula old) old.arena.clauses (is_among old.shown.items) (length old.shown.items) old.base old.variables (count_of old) old.prefix old.found.items old.leaves h.ground.named h.ground.follow old.trail.items) (sym steps.grows)
      (propagation_works (search_formula old) old.arena.clauses (is_among old.shown.items) (length old.shown.items) old.base old.variables (count_of old) old.prefix old.found.items old.leaves h.ground.named h.ground.follow steps.added old.trail.items steps.implied h.working)

  pub propagated_searches : IsSettled old.arena.clauses propagator trail → trail.level ≡ old.trail.level → trail.variables ≡ old.trail.variables →
      propagator.variables ≡ old.propagator.variables → propagator.known ≡ old.propagator.known → propagator.places ≡ old.propagator.places →
      IsTrail trail.variables trail.items trail.level → IsSearching (propagated old propagator trail)
  propagated_searches settled level variables own known places stands = record {
    ground = ground_with old h.ground old.arena propagator trail old.order old.shrinker old.prefix old.base old.counts old.leaves old.found
        (record {
          base = h.ground.based;
          formula = refl;
          named = h.ground.named;
          follow = h.ground.follow;
          known = known ∙ h.ground.known;
          places = rw places h.ground.places;
          settled = settled;
          reasoned = propagation_keeps_reasons old.arena.clauses old.trail.items trail.items stands.distinct steps h.ground.reasoned;
          variables = variables;
          stands = stands;
          own = own;
        })
        refl refl h.ground.shrinker h.ground.prefix refl h.ground.capped h.ground.cubes;
    working = works.working;
    current = level ∙ h.current ∙ sym works.deep;
    passed = subst (λ items. HasPassed items old.order) (sym steps.grows) (appending_keeps_passed old.trail.items steps.added old.order h.passed);
    copied = subst (λ items. AreCopied items old.copied old.values.items) (sym steps.grows) (copied_more old.trail.items steps.added old.copied old.values.items h.copied);
  }

  pub propagated_keeps : KeepsLeaves old (propagated old propagator trail)
  propagated_keeps = record {
    job = same_job old (propagated old propagator trail) refl refl refl refl refl refl;
    found = refl;
    leaves = refl;
    values = refl;
    has_model = refl;
    weight = works.weight;
  }

  pub propagated_left : left (propagated old propagator trail) ≤ left old
  propagated_left = works.less

-- ---- a decision

few_decisions : (n : ℕ) (items : List Item) → length (decisions_from n items) ≤ length items
few_decisions n [] = omega arith
few_decisions n (i ∷ later) = by_kind (is_decision i.kind) refl (few_decisions (suc n) later)
  where
    by_kind : (b : Bool) → is_decision i.kind ≡ b → length (decisions_from (suc n) later) ≤ length later →
        length (decisions_from n (i ∷ later)) ≤ length (i ∷ later)
    by_kind true e rest = rw e (omega arith)
    by_kind false e rest = rw e (omega arith)

-- a trail has no more levels than variables
pub level_bound : (n : ℕ) (items : List Item) (level : ℕ) → IsTrail n items level → level ≤ n
level_bound n items level t =
    let current = t.current in
    let count = decisions_count 0 0 items t.stands in
    let few = few_decisions 0 items in
    let bound = items_bound n items level t in
    omega arith

-- the search with another trail, another walk and other counts
abbrev pub decided : Search → TrailView → OrderView → Vec ℕ Global → Search
decided old trail order counts = record old { trail = trail; order = order; counts = counts }

module _ (old : Search) (h : IsSearching old) (trail : TrailView) (order : OrderView) (counts : Vec ℕ Global) (l : ℤ) where
  pub decided_runs : next_decision old.trail.items old.order.order ≡ Some l → order ≡ record old.order { from = order.from } →
      trail.items ≡ old.trail.items ++ record { lit = l; level = old.trail.level + 1; kind = Decided } ∷ [] →
      trail.level ≡ old.trail.level + 1 → trail.variables ≡ old.trail.variables → trail.seen ≡ old.trail.seen →
      IsTrail trail.variables trail.items trail.level → HasPassed old.trail.items order →
      counts.items ≡ set old.counts.items trail.level old.leaves → RunsOn old (decided old trail order counts)
  decided_runs next same grown level variables seen is_trail walk noted = record {
    searching = record {
      ground = ground_with old h.ground old.arena old.propagator trail order old.shrinker old.prefix old.base counts old.leaves old.found
          (record {
            base = h.ground.based;
            formula = refl;
            named = h.ground.named;
            follow = h.ground.follow;
            known = h.ground.known;
            places = h.ground.places;
            settled = settled_push old.arena.clauses old.propagator old.trail trail (e ∷ []) h.ground.settled variables grown (omega arith) seen;
            reasoned = subst (AreReasoned old.arena.clauses) (sym grown)
                (appending_keeps old.arena.clauses old.trail.items e h.ground.reasoned (needs_none old.arena.clauses old.trail.items e refl));
            variables = variables;
            stands = is_trail;
            own = refl;
          })
          (ap (λ (o : OrderView). o.variables) same) (ap (λ (o : OrderView). o.order) same) h.ground.shrinker h.ground.prefix
          (ap length noted ∙ length-set old.counts.items trail.level old.leaves) h.ground.capped h.ground.cubes;
      working = subst₂ (λ n t. Working f shown n old.base after old.prefix t old.found.items old.leaves) all.0 (sym now)
          (decide_keeps_working f shown old.variables old.base (count_of old) after old.prefix before old.found.items old.leaves
          (pictured old.arena.clauses e) all.1
          (subst (λ n. Working f shown n old.base (count_of old) old.prefix before old.found.items old.leaves) (sym all.0) h.working)
          refl opens free.named.0 fresh late same_below here);
      current = level ∙ sym (ap picture.depth now);
      passed = subst (λ items. HasPassed items order) (sym grown) (appending_keeps_passed old.trail.items (e ∷ []) order walk);
      copied = subst (λ items. AreCopied items old.copied old.values.items) (sym grown) (copied_more old.trail.items (e ∷ []) old.copied old.values.items h.copied);
    };
    keeps = record {
      job = same_job old (decided old trail order counts) refl refl refl refl refl refl;
      found = refl;
      leaves = refl;
      values = refl;
      has_model = refl;
      weight = subst₂ (λ n t. weights n (left_open shown old.base t) ≤ weights n (left_open shown old.base before)) all.0 (sym now)
          (decide_opens f shown old.variables old.base before (pictured old.arena.clauses e) all.1 h.working.running.steady refl opens
          h.working.running.region.based fresh);
    };
    less = subst (λ t. work old.variables t < left old) (sym now) (work_push old.variables (pictured old.arena.clauses e) before free.named.0 free.named.1 fresh);
  }
    where
      f : List (List ℤ)
      f = search_formula old

      shown : ℕ → Bool
      shown = is_among old.shown.items

      before : List picture.Item
      before = pictured_trail old

      after : ℕ → ℕ
      after k = get_or counts.items k 0

      all : (shown_count old.variables shown ≡ length old.shown.items) × AreShownUpto old.variables shown
      all = counts_shown old.variables old.shown.items h.ground.shown.rising h.ground.shown.named

      e : Item
      e = record { lit = l; level = old.trail.level + 1; kind = Decided }

      now : picture_of old.arena.clauses trail.items ≡ pictured old.arena.clauses e ∷ before
      now = ap (picture_of old.arena.clauses) grown ∙ picture-push old.arena.clauses old.trail.items e

      free : IsLowestFree old.variables old.shown.items old.trail.items l
      free = decisions_are_lowest old.variables old.shown.items old.trail.items l h.ground.shown (ap (next_decision old.trail.items) (sym h.ground.order) ∙ next)

      opens : old.trail.level + 1 ≡ suc (picture.depth before)
      opens = let current = h.current in omega arith

      fresh : picture.is_assigned (nat_abs l) before ≡ false
      fresh = is_assigned-picture old.arena.clauses (nat_abs l) old.trail.items ∙ ap is_some free.free

      late : shown (nat_abs l) ≡ false → (v : ℕ) → shown v ≡ true → picture.is_assigned v before ≡ true
      late hides v shows = is_assigned-picture old.arena.clauses v old.trail.items
          ∙ all_among (is_set old.trail.items) old.shown.items (free.late hides) v shows

      same_below : (k : ℕ) → k ≤ picture.depth before → after k ≡ count_of old k
      same_below k low =
          ap (λ xs. get_or xs k 0) noted
          ∙ get_or-set_other old.counts.items trail.level k old.leaves 0 (λ at. (let current = h.current in absurd (omega arith)))

      here : after (old.trail.level + 1) ≡ old.leaves
      here =
          ap (after) (sym level)
          ∙ ap (λ xs. get_or xs trail.level 0) noted
          ∙ get_or-set_same old.counts.items trail.level old.leaves 0
          (let long = h.ground.counted in let bound = level_bound trail.variables trail.items trail.level is_trail in let wide = h.ground.trail in omega arith)

-- what is decided next
pub next_free : (s : Search) → IsSearching s → (l : ℤ) → next_decision s.trail.items s.order.order ≡ Some l → IsLowestFree s.variables s.shown.items s.trail.items l
next_free s h l next = decisions_are_lowest s.variables s.shown.items s.trail.items l h.ground.shown (ap (next_decision s.trail.items) (sym h.ground.order) ∙ next)

pub next_full : (s : Search) → IsSearching s → next_decision s.trail.items s.order.order ≡ None → AreAllSet s.variables s.trail.items
next_full s h next = none_means_full s.variables s.shown.items s.trail.items (ap (next_decision s.trail.items) (sym h.ground.order) ∙ next)

-- where the walk has come to is no matter of the job
pub walked_searches : (old : Search) (order : OrderView) → IsSearching old → HasPassed old.trail.items order → order ≡ record old.order { from = order.from } →
    IsSearching (record old { order = order })
walked_searches old order h walk same = record {
  ground = ground_with old h.ground old.arena old.propagator old.trail order old.shrinker old.prefix old.base old.counts old.leaves old.found
      (same_stands old h.ground) (ap (λ (o : OrderView). o.variables) same) (ap (λ (o : OrderView). o.order) same) h.ground.shrinker h.ground.prefix refl h.ground.capped h.ground.cubes;
  working = h.working;
  current = h.current;
  passed = walk;
  copied = h.copied;
}
