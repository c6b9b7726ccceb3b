-- Names of cubes, and their order.
use Rattle.std.specs.Prelude.{ℕ, zero, suc, List, [], ◌∷◌, ℤ}
use Rattle.std.specs.declared.cmp.Ordering.{Ordering}
use Rattle.sat_terms.specs.CubeOrder.{cube_order}
use Rattle.cube_merge.specs.declared.name.CubeName.{CubeName}

-- Names are ordered by their cubes.
abbrev pub name_order : {N : Type 0} → (N → List ℤ) → N → N → Ordering
name_order cube_of a b = cube_order (cube_of a) (cube_of b)

-- The names of n cubes of the place j, from the index i on.
abbrev pub names_from : ℕ → ℕ → ℕ → List CubeName
names_from j i zero = []
names_from j i (suc n) = record { place = j; index = i } ∷ names_from j (suc i) n
