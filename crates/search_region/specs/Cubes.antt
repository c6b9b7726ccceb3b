-- Lists of cubes, seen from one assignment at a time: how many of them hold it.
use Rattle.std.specs.Prelude.{◌≡◌, ℕ, zero, ◌+◌, ◌<◌, ◌≤◌, Bool, true, cond, ℤ, nat_abs, List, [], ◌∷◌}
use Rattle.std.specs.List.{list_all}
use Rattle.sat_terms.specs.Truth.{sat, holds}

-- 1 where the assignment lies in the cube, else 0.
abbrev pub hit : (ℕ → Bool) → List ℤ → ℕ
hit t c = cond (holds t c) 1 0

-- How many cubes of the list hold the assignment.
abbrev pub hits : (ℕ → Bool) → List (List ℤ) → ℕ
hits t [] = zero
hits t (c ∷ cs) = hit t c + hits t cs

-- The assignment's shown part extends to a solution.
pub record Good (f : List (List ℤ)) (shown t : ℕ → Bool) : Type 0 where
  pub model : ℕ → Bool
  pub meets : sat f model ≡ true
  pub same : (v : ℕ) → shown v ≡ true → model v ≡ t v

-- Each literal is of a shown variable.
abbrev pub over : (ℕ → Bool) → List ℤ → Bool
over shown c = list_all (λ l. shown (nat_abs l)) c

-- Cubes found and prefixes left open are apart and within p, the cubes hold good assignments alone,
-- and what is good in p is in one of them.
pub record Fits (f : List (List ℤ)) (shown : ℕ → Bool) (p : List ℤ)
    (found left : List (List ℤ)) : Type 0 where
  pub bound : (t : ℕ → Bool) → hits t found + hits t left ≤ hit t p
  pub good : (t : ℕ → Bool) → 0 < hits t found → Good f shown t
  pub cover : (t : ℕ → Bool) → sat f t ≡ true → hit t p ≤ hits t found + hits t left
