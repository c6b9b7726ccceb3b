-- Lemmas that are dropped.
use Rattle.std.proofs.Common.{◌≡◌, ℕ, ◌≤◌, List, [], ◌++◌, length, take, drop, filter, nat_le, ℤ, refl, ap, ◌∙◌, length-append, arith, All}
use Rattle.std.proofs.lemmas.List.{take-append-le, drop-append-le, take_all, drop_all, length-take, length-drop}
use Rattle.std.proofs.lemmas.List.Elements.{All-append, All-take, All-drop, All-filter}
use Rattle.std.proofs.lemmas.List.Sums.{length-filter, count_by-le-length}
use Rattle.sat_terms.specs.Literals.{IsLiteralOf}
use Rattle.search_region.specs.Steady.{Follows}
use Rattle.clause_arena.specs.Clauses.{Clauses, without_long}
use Rattle.chrono_trail.specs.Trails.{TrailView}
use Rattle.propagation.specs.Settled.{PropagatorView, Watches}
use Rattle.propagation.proofs.Settled.{settled_unseen}
use Rattle.live_engine.specs.declared.search.Search.{Search}
use Rattle.live_engine.specs.Searching.{search_formula, IsGround}
use Rattle.live_engine.specs.Learning.{DropsLemmas}
use Rattle.live_engine.proofs.Grounds.{ground_with}

module _ (base keep : ℕ) (clauses : List (List ℤ)) (based : base ≤ length clauses) where
  abbrev kept : List (List ℤ)
  kept = filter (λ c. nat_le (length c) keep) (drop base clauses)

  pub dropped_all : (P : List ℤ → Type 0) → All P clauses → All P (without_long base keep clauses)
  dropped_all P h = All-append P (take base clauses) kept (All-take P base clauses h) (All-filter (λ c. nat_le (length c) keep) P (drop base clauses) (All-drop P base clauses h))

  pub dropped_front : take base (without_long base keep clauses) ≡ take base clauses
  dropped_front =
      let short = length-take base clauses in
      take-append-le base (take base clauses) kept (omega arith) ∙ take_all base (take base clauses) (omega arith)

  pub dropped_rest : drop base (without_long base keep clauses) ≡ kept
  dropped_rest =
      let short = length-take base clauses in
      drop-append-le base (take base clauses) kept (omega arith) ∙ ap (λ xs. xs ++ kept) (drop_all base (take base clauses) (omega arith))

  pub dropped_few : length (without_long base keep clauses) ≤ length clauses
  dropped_few =
      let short = length-take base clauses in
      let rest = length-drop base clauses in
      let both = length-append (take base clauses) kept in
      let count = length-filter (λ c. nat_le (length c) keep) (drop base clauses) in
      let fewer = count_by-le-length (λ c. nat_le (length c) keep) (drop base clauses) in
      omega arith

  pub dropped_based : base ≤ length (without_long base keep clauses)
  dropped_based =
      let short = length-take base clauses in
      let both = length-append (take base clauses) kept in
      omega arith

pub drops : (old : Search) (keep : ℕ) (arena : Clauses) (propagator : PropagatorView) (trail : TrailView) → IsGround old →
    arena.clauses ≡ without_long old.arena.base keep old.arena.clauses → arena.base ≡ old.arena.base → trail.items ≡ [] → trail.level ≡ 0 → trail.seen ≡ 0 →
    trail.variables ≡ old.trail.variables → Watches arena.clauses propagator → propagator.known ≡ length arena.clauses → propagator.places ≡ old.propagator.places →
    propagator.variables ≡ old.propagator.variables → DropsLemmas old (record old { arena = arena; propagator = propagator; trail = trail }) keep
drops old keep arena propagator trail g clauses base items level seen variables watches known places own = record {
  ground = ground_with old g arena propagator trail old.order old.shrinker old.prefix old.base old.counts old.leaves old.found
      (record {
        base = rw (clauses, base) (dropped_based old.arena.base keep old.arena.clauses g.based);
        formula = ap (λ n. take n arena.clauses) base ∙ ap (take old.arena.base) clauses ∙ dropped_front old.arena.base keep old.arena.clauses g.based;
        named = rw clauses (dropped_all old.arena.base keep old.arena.clauses g.based (All (IsLiteralOf old.variables)) g.named);
        follow = rw clauses (dropped_all old.arena.base keep old.arena.clauses g.based (Follows (search_formula old)) g.follow);
        known = known;
        places = (let few = dropped_few old.arena.base keep old.arena.clauses g.based in let long = ap length clauses in let room = g.places in omega arith);
        settled = settled_unseen arena.clauses propagator trail watches seen;
        reasoned = rw items tt;
        variables = variables;
        stands = record {
          small = (let same = g.trail in let small = g.small in omega arith);
          within = rw items refl;
          distinct = rw items refl;
          stands = rw items refl;
          current = rw (items, level) refl;
        };
        own = own;
      })
      refl refl g.shrinker g.prefix refl g.capped g.cubes;
  items = items;
  clauses = ap (λ (xs : List (List ℤ)). record { clauses = xs; base = arena.base }) clauses ∙ ap (λ (n : ℕ). record { clauses = without_long old.arena.base keep old.arena.clauses; base = n }) base;
  rest = refl;
}
