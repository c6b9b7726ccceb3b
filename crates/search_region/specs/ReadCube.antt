-- A cube read off the trail, with its variables in their own order.
use Rattle.std.specs.Prelude.{ℕ, Bool, cond, nat_eq, List, [], ◌∷◌, filter_map, ℤ, nat_abs, Option, Some, None}
use Rattle.search_region.specs.Trail.{Item}

-- The literal that the trail has of a variable, where its item is picked.
abbrev pub picked_literal : (Item → Bool) → List Item → ℕ → Option ℤ
picked_literal pick [] v = None
picked_literal pick (i ∷ older) v =
    cond (nat_eq v (nat_abs i.lit))
    (cond (pick i) (Some i.lit) None)
    (picked_literal pick older v)

-- The picked literals of the variables p, in the order of p.
abbrev pub read_cube : (Item → Bool) → List Item → List ℕ → List ℤ
read_cube pick trail p = filter_map (picked_literal pick trail) p
