-- A search is made, and a job of it begins.
use Rattle.std.proofs.Common.{Bool, false, ◌≡◌, ℕ, ◌+◌, ◌<◌, ◌≤◌, ◌^◌, List, [], length, refl, sym, ap, subst, ◌∙◌, arith, All, Vec, Global, ℤ}
use Rattle.std.proofs.lemmas.List.{take_all, length-map}
use Rattle.std.proofs.lemmas.List.Elements.{All-nil}
use Rattle.sat_terms.specs.Cubes.{IsCube, is_among}
use Rattle.sat_terms.specs.Subjects.{IsSubject}
use Rattle.sat_terms.specs.declared.subject.Subject.{Subject}
use Rattle.search_region.specs.Trail as picture
use Rattle.search_region.specs.Steady.{Follows}
use Rattle.search_region.proofs.Imply.{clause_follows}
use Rattle.search_job.specs.Reasons.{assume_all}
use Rattle.search_job.specs.Working.{Working}
use Rattle.search_job.proofs.Start.{begin_works}
use Rattle.clause_arena.specs.Once.{once}
use Rattle.chrono_trail.specs.Trails.{TrailView, IsTrail}
use Rattle.chrono_trail.specs.Pictures.{picture_of}
use Rattle.chrono_trail.specs.Reasons.{AreReasoned}
use Rattle.projected_decide.specs.Orders.{OrderView}
use Rattle.propagation.proofs.Settled.{settled_unseen, settled_clear}
use Rattle.live_engine.specs.declared.search.Search.{Search}
use Rattle.live_engine.specs.Searching.{search_formula, count_of, IsGround, TellsShown}
use Rattle.live_engine.specs.declared.starting.Machines.{Machines}
use Rattle.live_engine.specs.Starts.{AreOf, IsOf, Begins}
use Rattle.live_engine.proofs.Grounds.{ground_with, ground_valued}
use Rattle.live_engine.proofs.Prefixes.{assumed_depth}

-- the search that is made
abbrev pub made : ℕ → Machines → ℕ → Vec ℕ Global → Vec Bool Global → List ℤ → Vec ℕ Global → Vec Bool Global → Vec (List ℤ) Global → Search
made variables m most shown is_shown prefix counts values found = record {
  variables = variables;
  arena = m.arena;
  propagator = m.propagator;
  trail = m.trail;
  order = m.order;
  analyser = m.analyser;
  most_lemmas = most;
  shrinker = m.shrinker;
  shown = shown;
  is_shown = is_shown;
  prefix = prefix;
  base = 0;
  counts = counts;
  leaves = 0;
  values = values;
  has_model = false;
  copied = 0;
  sent = 0;
  found = found;
}

-- what the parts of it are
pub record ArePartsOf (s : Subject) (m : Machines) (shown : Vec ℕ Global) (is_shown : Vec Bool Global) (prefix : List ℤ) (counts : Vec ℕ Global) (values : Vec Bool Global) (found : Vec (List ℤ) Global) : Type 0 where
  pub machines : AreOf s m
  pub shows : shown.items ≡ s.shown
  pub table : TellsShown s.formula.variables s.shown is_shown.items
  pub is_prefix : prefix ≡ []
  pub counted : length counts.items ≡ s.formula.variables + 1
  pub valued : length values.items ≡ s.formula.variables + 1
  pub is_found : found.items ≡ []

module _ (s : Subject) (m : Machines) (most : ℕ) (shown : Vec ℕ Global) (is_shown : Vec Bool Global) (prefix : List ℤ) (counts : Vec ℕ Global) (values : Vec Bool Global) (found : Vec (List ℤ) Global) where
  pub made_ground : IsSubject s.formula.variables s.formula.clauses s.shown s.under → ArePartsOf s m shown is_shown prefix counts values found →
      IsGround (made s.formula.variables m most shown is_shown prefix counts values found)
  made_ground subject parts =
      let few = subject.formula.variables in
      let on = parts.machines in
      let variables = on.variables in
      let base = on.base in
      let places = on.places in
      let count = ap length on.clauses ∙ length-map s.formula.clauses once in
      record {
        small = (let low : s.formula.variables < 2 ^ 31 = omega arith in low);
        trail = on.variables;
        stands = record {
          small = (let low : m.trail.variables < 2 ^ 31 = omega arith in low);
          within = rw on.items refl;
          distinct = rw on.items refl;
          stands = rw on.items refl;
          current = rw (on.items, on.level) refl;
        };
        propagator = on.own;
        shown = rw parts.shows subject.shown;
        table = rw parts.shows parts.table;
        ordered = on.ordered;
        order = rw parts.shows on.order;
        shrinker = on.shrinker;
        analyser = on.analyser;
        based = omega arith;
        named = on.named;
        follow = subst (λ f. All (Follows f) m.arena.clauses) (sym (take_all m.arena.base m.arena.clauses (omega arith))) (λ k d inside. clause_follows m.arena.clauses k d inside);
        known = on.known;
        places = omega arith;
        settled = settled_unseen m.arena.clauses m.propagator m.trail on.watches on.seen;
        reasoned = rw on.items tt;
        counted = parts.counted;
        valued = parts.valued;
        capped = (let low : 0 ≤ 2 ^ 62 = omega arith in low);
        prefix = rw parts.is_prefix (record { rising = refl; over = refl });
        cubes = rw parts.is_found (All-nil (IsCube shown.items));
      }

  pub made_of : ArePartsOf s m shown is_shown prefix counts values found → IsOf s (made s.formula.variables m most shown is_shown prefix counts values found)
  made_of parts =
      let base = parts.machines.base in
      let count = ap length parts.machines.clauses ∙ length-map s.formula.clauses once in
      record {
        variables = refl;
        formula = take_all m.arena.base m.arena.clauses (omega arith) ∙ parts.machines.clauses;
        shown = parts.shows;
      }

pub begun : (old : Search) (trail : TrailView) (order : OrderView) (q : List ℤ) → IsGround old → IsCube old.shown.items q → old.found.items ≡ [] →
    ((f : List (List ℤ)) → picture_of f trail.items ≡ assume_all q []) → ((f : List (List ℤ)) → AreReasoned f trail.items) →
    trail.level ≡ 0 → trail.variables ≡ old.trail.variables → trail.seen ≡ 0 →
    IsTrail trail.variables trail.items trail.level → order ≡ record old.order { from = 0 } →
    Begins old (record old { trail = trail; order = order; copied = 0; prefix = q; base = 0; leaves = 0 }) q
begun old trail order q h cube none items reasoned level variables seen stands again = record {
  searching = record {
    ground = ground_valued (record old { trail = trail; order = order; prefix = q; base = 0; leaves = 0 }) (ground_with old h old.arena old.propagator trail order old.shrinker q 0 old.counts 0 old.found
        (record {
          base = h.based;
          formula = refl;
          named = h.named;
          follow = h.follow;
          known = h.known;
          places = h.places;
          settled = settled_clear old.arena.clauses old.propagator old.trail trail h.settled seen;
          reasoned = reasoned old.arena.clauses;
          variables = variables;
          stands = stands;
          own = refl;
        })
        (ap (λ (o : OrderView). o.variables) again) (ap (λ (o : OrderView). o.order) again) h.shrinker cube refl (let low : 0 ≤ 2 ^ 62 = omega arith in low) h.cubes) old.values old.has_model 0 refl;
    working = subst (λ xs. Working (search_formula old) (is_among old.shown.items) (length old.shown.items) 0 (count_of old) q (picture_of old.arena.clauses trail.items) xs 0) (sym none)
        (subst (λ t. Working (search_formula old) (is_among old.shown.items) (length old.shown.items) 0 (count_of old) q t [] 0) (sym (items old.arena.clauses))
        (begin_works (search_formula old) (is_among old.shown.items) (length old.shown.items) (count_of old) q cube.rising cube.over));
    current = level ∙ sym (ap picture.depth (items old.arena.clauses) ∙ assumed_depth q []);
    passed = rw again refl;
    copied = record { within = omega arith; same = refl };
  };
  trail = items old.arena.clauses;
  prefix = refl;
  base = refl;
  leaves = refl;
  variables = refl;
  arena = refl;
  shown = refl;
  found = refl;
  values = refl;
  has_model = refl;
}
