-- A clause with each of its literals once.
use Rattle.std.specs.Prelude.{◌≡◌, ◌≢◌, ℕ, Bool, not, List, [], ◌∷◌, length, filter, map, slice_index_or, ℤ}
use Rattle.std.specs.List.{AllPairs}
use Rattle.std.specs.Ordering.{int_eq}
use Rattle.sat_terms.specs.Cubes.{has_literal, has_pair}
use Rattle.sat_terms.specs.Truth.{sat}

-- The list without the literal l.
abbrev pub without : ℤ → List ℤ → List ℤ
without l c = filter (λ m. not (int_eq m l)) c

-- Each literal of the list once, at its first place.
abbrev pub once : List ℤ → List ℤ
once [] = []
once (l ∷ c) = l ∷ without l (once c)

-- No two places have the same literal.
abbrev pub HasEachOnce : List ℤ → Type 0
HasEachOnce c = AllPairs (λ l m. l ≢ m) c

-- The literals stay the same, and no two places have the same one.
pub record KeepsEachOnce (c : List ℤ) : Type 0 where
  pub same : (l : ℤ) → has_literal (once c) l ≡ has_literal c l
  pub distinct : HasEachOnce (once c)

-- A formula is as true as where each literal stands once.
abbrev pub OnceKeepsTruth : Type 0
OnceKeepsTruth = (f : List (List ℤ)) (t : ℕ → Bool) → sat (map once f) t ≡ sat f t

-- A clause keeps its pair, or has none then either.
abbrev pub OnceKeepsPairs : Type 0
OnceKeepsPairs = (c : List ℤ) → has_pair (once c) ≡ has_pair c

-- The clauses are as many, and each stands at its place.
pub record OnceKeepsPlaces (f : List (List ℤ)) : Type 0 where
  pub count : length (map once f) ≡ length f
  pub place : (id : ℕ) → slice_index_or (map once f) id [] ≡ once (slice_index_or f id [])
