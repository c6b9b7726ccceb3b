-- What unit propagation derives, and what it says of satisfying assignments.
use Rattle.std.proofs.Common.{◌≡◌, ℕ, Bool, true, false, ◌||◌, List, ℤ, sym, ap, ◌∙◌, inl, inr}
use Rattle.std.specs.Prelude.{neg_ℤ}
use Rattle.std.specs.Ordering.{int_eq}
use Rattle.std.proofs.lemmas.Bool.{both_ways, or_cases, or_left, or_right, cases_Bool, not_from_true}
use Rattle.sat_terms.specs.Literals.{lit_true}
use Rattle.sat_terms.specs.Truth.{sat, holds}
use Rattle.sat_terms.specs.Cubes.{has_literal}
use Rattle.sat_terms.proofs.CubeLemmas.{int_eq-true}
use Rattle.sat_terms.proofs.Disjoint.{lit_true-neg}
use Rattle.sat_terms.specs.Cubes.{has_pair}
use Rattle.search_region.proofs.Literals.{test_from_same}
use Rattle.unit_closure.specs.Closure.{IsClosed}
use Rattle.unit_closure.specs.Laws.{HoldsUnits, ArePart, AreAmong, GrowsAlong, ClosesAlong, DerivesWhatFollows, ClosesWhereNoneIsLeft}
use Rattle.unit_closure.proofs.Members.{all_of, some_of, all_from_members, nonzero, clause_true}

pub holds_units : HoldsUnits
holds_units g a c l there plain has others s closed =
    closed.units c l there plain has (all_from_members (λ m. int_eq m l || s (neg_ℤ m)) c each)
  where
    each : (m : ℤ) → has_literal c m ≡ true → (int_eq m l || s (neg_ℤ m)) ≡ true
    each m in_c =
        elim (cases_Bool (int_eq m l)) [
          | inl same ↦ or_left (int_eq m l) (s (neg_ℤ m)) same
          | inr other ↦ or_right (int_eq m l) (s (neg_ℤ m)) (others m in_c (λ e. both_ways (int_eq m l) other (test_from_same m l e)) s closed)
        ]

-- what is closed for more is closed for fewer
closed_fewer : (g h : List (List ℤ)) (a b : List ℤ) → ArePart g h → AreAmong a b → (s : ℤ → Bool) → IsClosed h b s → IsClosed g a s
closed_fewer g h a b part among s closed = record {
  start = λ l k. closed.start l (among l k);
  units = λ c l there plain has rest. closed.units c l (part c there) plain has rest;
}

pub grows_along : GrowsAlong
grows_along g h a b part among l k s closed = k s (closed_fewer g h a b part among s closed)

pub closes_along : ClosesAlong
closes_along g h a b part among k = record {
  clause = k.clause;
  there = part k.clause k.there;
  plain = k.plain;
  negated = λ l has. grows_along g h a b part among (neg_ℤ l) (k.negated l has);
}

-- the literals of a clause without a pair aren't true together with their negations
not_both : (t : ℕ → Bool) (c : List ℤ) (m : ℤ) → has_pair c ≡ false → has_literal c m ≡ true → lit_true t m ≡ true → lit_true t (neg_ℤ m) ≡ true → ⊥
not_both t c m plain there yes_m no_m =
    both_ways (lit_true t (neg_ℤ m)) (lit_true-neg t m (nonzero c m plain there) ∙ not_from_true (lit_true t m) yes_m) no_m

-- the true literals of a satisfying assignment are a closed set
true_closed : (g : List (List ℤ)) (a : List ℤ) (t : ℕ → Bool) → sat g t ≡ true → holds t a ≡ true → IsClosed g a (lit_true t)
true_closed g a t met start = record {
  start = λ l there. all_of (lit_true t) a l start there;
  units = λ c l there plain has rest.
      let some = some_of (lit_true t) c (clause_true g t c met there) in
      elim (or_cases (int_eq some.literal l) (lit_true t (neg_ℤ some.literal)) (all_of (λ m. int_eq m l || lit_true t (neg_ℤ m)) c some.literal rest some.there)) [
        | inl same ↦ sym (ap (lit_true t) (int_eq-true some.literal l same)) ∙ some.passes
        | inr negated ↦ absurd (not_both t c some.literal plain some.there some.passes negated)
      ];
}

pub derives_what_follows : DerivesWhatFollows
derives_what_follows g a l k t met start = k (lit_true t) (true_closed g a t met start)

pub closes_where_none_is_left : ClosesWhereNoneIsLeft
closes_where_none_is_left g a k t met start =
    let some = some_of (lit_true t) k.clause (clause_true g t k.clause met k.there) in
    not_both t k.clause some.literal k.plain some.there some.passes (derives_what_follows g a (neg_ℤ some.literal) (k.negated some.literal some.there) t met start)
