-- Tests of the literals of a clause, taken as a set.
use Rattle.std.proofs.Common.{◌≡◌, ℕ, zero, suc, ◌<◌, Bool, true, false, List, [], ◌∷◌, get_or, ℤ, pos, negsuc, refl, sym, subst, inl, inr, arith}
use Rattle.std.specs.Prelude.{neg_ℤ, nat_abs}
use Rattle.std.specs.List.{Contains, list_any, list_all}
use Rattle.std.specs.Ordering.{int_eq}
use Rattle.std.proofs.lemmas.Bool.{both_ways, or_cases, or_left, or_right, and_parts, and_from, true_from_ne_false}
use Rattle.std.proofs.lemmas.List.Folds.{list_all_at}
use Rattle.sat_terms.specs.Cubes.{has_literal}
use Rattle.sat_terms.specs.Truth.{sat, sat_clause}
use Rattle.sat_terms.proofs.CubeLemmas.{int_eq-same, int_eq-true}
use Rattle.sat_terms.specs.Cubes.{has_pair}

pub any_of : (p : ℤ → Bool) (c : List ℤ) (l : ℤ) → has_literal c l ≡ true → p l ≡ true → list_any p c ≡ true
any_of p [] l there h = cc
any_of p (m ∷ c) l there h =
    elim (or_cases (int_eq l m) (has_literal c l) there) [
      | inl here ↦ or_left (p m) (list_any p c) (subst (λ x. p x ≡ true) (int_eq-true l m here) h)
      | inr later ↦ or_right (p m) (list_any p c) (any_of p c l later h)
    ]

pub all_of : (p : ℤ → Bool) (c : List ℤ) (l : ℤ) → list_all p c ≡ true → has_literal c l ≡ true → p l ≡ true
all_of p [] l h there = cc
all_of p (m ∷ c) l h there =
    let (first, rest) = and_parts (p m) (list_all p c) h in
    elim (or_cases (int_eq l m) (has_literal c l) there) [
      | inl here ↦ subst (λ x. p x ≡ true) (sym (int_eq-true l m here)) first
      | inr later ↦ all_of p c l rest later
    ]

-- some literal that passes
pub record Passes (p : ℤ → Bool) (c : List ℤ) : Type 0 where
  pub literal : ℤ
  pub there : has_literal c literal ≡ true
  pub passes : p literal ≡ true

pub some_of : (p : ℤ → Bool) (c : List ℤ) → list_any p c ≡ true → Passes p c
some_of p [] h = absurd (both_ways false refl h)
some_of p (m ∷ c) h =
    elim (or_cases (p m) (list_any p c) h) [
      | inl here ↦ record { literal = m; there = or_left (int_eq m m) (has_literal c m) (int_eq-same m); passes = here }
      | inr later ↦
          let some = some_of p c later in
          record { literal = some.literal; there = or_right (int_eq some.literal m) (has_literal c some.literal) some.there; passes = some.passes }
    ]

pub all_from_members : (p : ℤ → Bool) (c : List ℤ) → ((m : ℤ) → has_literal c m ≡ true → p m ≡ true) → list_all p c ≡ true
all_from_members p [] h = refl
all_from_members p (m ∷ c) h =
    and_from (p m) (list_all p c)
    (h m (or_left (int_eq m m) (has_literal c m) (int_eq-same m)))
    (all_from_members p c (λ x there. h x (or_right (int_eq x m) (has_literal c x) there)))

-- a literal of a clause without a pair isn't 0, which is its own negation
pub nonzero : (c : List ℤ) (l : ℤ) → has_pair c ≡ false → has_literal c l ≡ true → 0 < nat_abs l
nonzero c (pos zero) plain there = absurd (both_ways (has_pair c) plain (any_of (λ m. has_literal c (neg_ℤ m)) c (pos zero) there there))
nonzero c (pos (suc n)) plain there = omega arith
nonzero c (negsuc n) plain there = omega arith

-- a true formula makes each of its clauses true
pub clause_true : (g : List (List ℤ)) (t : ℕ → Bool) (c : List ℤ) → sat g t ≡ true → Contains g c → sat_clause t c ≡ true
clause_true g t c h there =
    subst (λ d. sat_clause t d ≡ true) there.2
    (true_from_ne_false (sat_clause t (get_or g there.0 c)) (λ no. both_ways (sat g t) (list_all_at (sat_clause t) g there.0 c there.1 no) h))
