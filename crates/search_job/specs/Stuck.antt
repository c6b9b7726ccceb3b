-- Where the search left a cube behind.
use Rattle.std.specs.Prelude.{◌≡◌, ℕ, Bool, true, ◌⊎◌, ℤ, List, [], ◌∷◌}
use Rattle.std.specs.List.{AllByRecursion}
use Rattle.sat_terms.specs.Truth.{holds}
use Rattle.search_region.specs.Trail.{Item}
use Rattle.search_region.specs.Region.{leaves_at}

-- All assignments of the cube leave the trail at the same item. So the cube is within each prefix
-- that begins with this item's side, and apart from each that begins with the other.
abbrev pub Stuck : (ℕ → Bool) → List Item → List ℤ → Type 0
Stuck shown [] c = ⊥
Stuck shown (i ∷ older) c =
    Stuck shown older c
    ⊎ ((t : ℕ → Bool) → holds t c ≡ true → leaves_at shown t i older ≡ true)

-- Each of the cubes was left behind at some item.
abbrev pub AllStuck : (ℕ → Bool) → List Item → List (List ℤ) → Type 0
AllStuck shown trail found = AllByRecursion (Stuck shown trail) found
