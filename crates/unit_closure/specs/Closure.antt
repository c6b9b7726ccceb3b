-- Unit propagation: the least set of literals that a list of clauses derives from a list of
-- literals.
use Rattle.std.specs.Prelude.{◌≡◌, Bool, true, false, ◌||◌, List, ℤ, neg_ℤ}
use Rattle.std.specs.List.{Contains, list_all}
use Rattle.std.specs.Ordering.{int_eq}
use Rattle.sat_terms.specs.Cubes.{has_literal}
use Rattle.sat_terms.specs.Cubes.{has_pair}

-- Each literal of the clause but l is negated in the set s.
abbrev pub rest_is_false : (ℤ → Bool) → List ℤ → ℤ → Bool
rest_is_false s c l = list_all (λ m. int_eq m l || s (neg_ℤ m)) c

-- A set is closed where it holds a, and holds the literal l of each clause of g that has no pair
-- and whose other literals are negated in it.
-- Each clause is taken as the set of its literals.
pub record IsClosed (g : List (List ℤ)) (a : List ℤ) (s : ℤ → Bool) : Type 0 where
  pub start : (l : ℤ) → has_literal a l ≡ true → s l ≡ true
  pub units : (c : List ℤ) (l : ℤ) → Contains g c → has_pair c ≡ false →
      has_literal c l ≡ true → rest_is_false s c l ≡ true → s l ≡ true

-- The closure is the least closed set: a literal is in it where it is in every closed set.
abbrev pub InClosure : List (List ℤ) → List ℤ → ℤ → Type 0
InClosure g a l = (s : ℤ → Bool) → IsClosed g a s → s l ≡ true

-- The propagation closes where some clause of g without a pair has each of its literals negated in
-- the closure.
pub record Closes (g : List (List ℤ)) (a : List ℤ) : Type 0 where
  pub clause : List ℤ
  pub there : Contains g clause
  pub plain : has_pair clause ≡ false
  pub negated : (l : ℤ) → has_literal clause l ≡ true → InClosure g a (neg_ℤ l)
