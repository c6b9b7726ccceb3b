-- Stamps, by which the literals of a clause are known.
use Rattle.std.specs.Prelude.{◌≡◌, ℕ, ◌+◌, ◌*◌, ◌<◌, ◌≤◌, ◌^◌, nat_eq, List, length, slice_index_or, ℤ}
use Rattle.std.specs.List.{All}
use Rattle.sat_terms.specs.CubeOrder.{key}
use Rattle.sat_terms.specs.Cubes.{has_literal}

-- The places that bear this stamp are those of the clause's literals.
abbrev pub AreStamped : List ℕ → ℕ → List ℤ → Type 0
AreStamped stamps stamp c = (l : ℤ) → key l < length stamps →
    nat_eq (slice_index_or stamps (key l) 0) stamp ≡ has_literal c l

-- A table of the literals of the variables 0 to n, whose greatest stamp is at most `last`.
pub record IsStampTable (n : ℕ) (stamps : List ℕ) (last : ℕ) : Type 0 where
  pub small : n < 2 ^ 31
  pub wide : length stamps ≡ 2 * (n + 1)
  pub older : All (λ s. s ≤ last) stamps
