-- Prefixes that differ in the order of their literals alone.
use Rattle.std.specs.Prelude.{◌≡◌, ℕ, Bool, not, ℤ, List, ◌∷◌, length}
use Rattle.sat_terms.specs.Truth.{holds}
use Rattle.search_region.specs.Trail.{Item, depth, flip, is_implied}
use Rattle.search_region.specs.ReadCube.{read_cube}

-- The lists hold the same assignments, and are of one length.
pub record SamePrefix (q r : List ℤ) : Type 0 where
  pub says : (t : ℕ → Bool) → holds t q ≡ holds t r
  pub long : length q ≡ length r

-- The item stands in the prefix that the search is in, if it is a shown one.
abbrev pub is_plain : Item → Bool
is_plain i = not (is_implied i.kind)

-- The prefix that the search is in, as a cube.
abbrev pub front_cube : List Item → List ℕ → List ℤ
front_cube trail p = read_cube is_plain trail p

-- The other side of the decision d, as a cube.
abbrev pub other_cube : Item → List Item → List ℕ → List ℤ
other_cube d older p = front_cube (flip (depth older) d ∷ older) p
