-- What the engine's callers see of a give.
use Rattle.std.proofs.Common.{◌≡◌, suc, ◌+◌, ◌-◌, ◌<◌, List, [], ◌∷◌, ◌++◌, length, filter, ℤ, Option, Some, None, sym, ap, subst, subst₂, arith}
use Rattle.sat_terms.specs.declared.subject.Subject.{Subject}
use Rattle.sat_terms.specs.Cubes.{within}
use Rattle.search_job.specs.Open.{untried_cubes}
use Rattle.search_job.specs.Same.{front_cube}
use Rattle.search_job.specs.Weights.{weight, weights}
use Rattle.search_job.proofs.Weights.{weight_some}
use Rattle.prefix_jobs.specs.declared.outcome.Outcome.{Outcome}
use Rattle.prefix_jobs.specs.Outcomes.{FitsPrefix}
use Rattle.live_engine.specs.declared.search.Search.{Search}
use Rattle.live_engine.specs.declared.search.Phase.TheVariants.{Running}
use Rattle.live_engine.specs.Searching.{pictured_trail, IsSearching}
use Rattle.live_engine.specs.Starts.{IsOf}
use Rattle.live_engine.specs.Engines.{open_weight, engine_view}
use Rattle.live_engine.specs.Gives.{HandsOut, HandsOutOrNot, HasGiven, GivesOrNot}
use Rattle.live_engine.proofs.Views.{fits_once}

module _ (subject : Subject) (s : Search) (of : IsOf subject s) where
  module _ (new : Search) (given kept : List ℤ) (o : Outcome) (hands : HandsOut s new given kept o) where
    pub of_hands : IsOf subject new
    of_hands = subst (IsOf subject) (sym hands.keeps.rest) (record { variables = of.variables; formula = of.formula; shown = of.shown })

    same_here : front_cube (pictured_trail new) new.shown.items ≡ front_cube (pictured_trail s) s.shown.items
    same_here = ap (λ (n : Search). front_cube (pictured_trail n) n.shown.items) hands.keeps.rest

    less : open_weight (engine_view subject new Running) < open_weight (engine_view subject s Running)
    less =
        let n = length subject.shown in
        let some = weight_some n given in
        let was : open_weight (engine_view subject s Running) ≡ weight n given + weights n (untried_cubes new.shown.items new.base (pictured_trail new) ++ front_cube (pictured_trail s) s.shown.items ∷ [])
        = ap (λ xs. weights n (xs ++ front_cube (pictured_trail s) s.shown.items ∷ [])) hands.first in
        let now : open_weight (engine_view subject new Running) ≡ weights n (untried_cubes new.shown.items new.base (pictured_trail new) ++ front_cube (pictured_trail s) s.shown.items ∷ [])
        = ap (λ c. weights n (untried_cubes new.shown.items new.base (pictured_trail new) ++ c ∷ [])) same_here in
        let goal_is : open_weight (engine_view subject new Running) < open_weight (engine_view subject s Running) = omega arith in goal_is

    same_some : (x r : List ℤ) → Some x ≡ Some r → x ≡ r
    same_some x r e = cc

    has_given : HasGiven (engine_view subject s Running) (engine_view subject new Running) given kept o
    has_given = record {
      untried = hands.first;
      outcome = hands.outcome;
      goes_on = subst (λ (n : Search). engine_view subject n Running
          ≡ record (engine_view subject s Running) { job = Some kept; found = filter (λ c. within c kept) s.found.items; untried = untried_cubes n.shown.items n.base (pictured_trail n); leaves = n.leaves })
          (sym hands.keeps.rest)
          (ap (λ xs. record (engine_view subject s Running) { job = Some kept; found = xs; untried = untried_cubes s.shown.items (suc s.base) (pictured_trail s); leaves = s.leaves - o.leaves }) hands.keeps.found);
      leaves = (let now = ap (λ (n : Search). n.leaves) hands.keeps.rest in let few = hands.few in omega arith);
      less = less;
      fits = λ q told. subst (λ x. FitsPrefix subject.formula.clauses subject.shown x o) (same_some s.prefix q told)
          (fits_once subject.formula.clauses subject.shown s.prefix o (subst₂ (λ f p. FitsPrefix f p s.prefix o) of.formula of.shown hands.fits));
    }

  pub gives_or_not : (new : Search) (o : Option Outcome) → HandsOutOrNot s new o → GivesOrNot (engine_view subject s Running) (engine_view subject new Running) o
  gives_or_not new None h = (h.0, ap (λ n. engine_view subject n Running) h.1)
  gives_or_not new (Some o) h = (h.0, h.1, has_given new h.0 h.1 o h.2)

  pub searches_on : IsSearching s → (new : Search) (o : Option Outcome) → HandsOutOrNot s new o → (IsOf subject new) × (IsSearching new)
  searches_on searching new None h = (subst (IsOf subject) (sym h.1) of, subst IsSearching (sym h.1) searching)
  searches_on searching new (Some o) h = (of_hands new h.0 h.1 o h.2, h.2.searching)
