-- Names in parts.
use Rattle.std.specs.Prelude.{◌≡◌, ℕ, ◌<◌, ◌≤◌, false, cond, List, [], ◌∷◌, ◌++◌, map, length, slice_index_or, ℤ, Option, Some, None, Vec, vec_capacity}
use Rattle.std.specs.declared.alloc.Global.{Global}
use Rattle.std.specs.declared.cmp.Ordering.{Ordering}
use Rattle.std.specs.List.{All, flat_map}
use Rattle.std.specs.List.Sorted.{IsSorted}
use Rattle.std.specs.Ordering.{is_lt}
use Rattle.cube_merge.specs.declared.name.CubeName.{CubeName}
use Rattle.cube_merge.specs.Names.{name_order}

-- The names of all parts, part by part.
abbrev pub all_names : List (List CubeName) → List CubeName
all_names parts = flat_map (λ part. part) parts

-- The lists that some vectors hold.
abbrev pub part_lists : List (Vec CubeName Global) → List (List CubeName)
part_lists parts = map (λ part. part.items) parts

-- Behind the parts an empty vector has room for all of their names.
pub record HasMergeRoom (parts : List (List CubeName)) (count : ℕ)
    (room : Vec CubeName Global) : Type 0 where
  pub empty : room.items ≡ []
  pub counted : length (all_names parts) ≡ count
  pub all : count ≤ vec_capacity room

-- Each part is in order.
abbrev pub AreInOrder : (CubeName → List ℤ) → List (List CubeName) → Type 0
AreInOrder cube_of parts = All (IsSorted (name_order cube_of)) parts

-- The order turned round: the greatest stands first.
abbrev pub falls : (CubeName → List ℤ) → CubeName → CubeName → Ordering
falls cube_of a b = name_order cube_of b a

-- The part at this place ends with this name, and no part with one of a greater cube.
pub record LeadsAt (cube_of : CubeName → List ℤ) (parts : List (List CubeName)) (at : ℕ)
    (name : CubeName) : Type 0 where
  pub inside : at < length parts
  pub front : List CubeName
  pub ends : slice_index_or parts at [] ≡ front ++ name ∷ []
  pub greatest : All (λ part. (rest : List CubeName) (other : CubeName) →
      part ≡ rest ++ other ∷ [] → is_lt (name_order cube_of name other) ≡ false) parts

-- The part whose last name leads; none where there is no name.
abbrev pub IsGreatestLast : (CubeName → List ℤ) → List (List CubeName) → Option ℕ → Type 0
IsGreatestLast cube_of parts None = All (λ part. part ≡ []) parts
IsGreatestLast cube_of parts (Some at) = (name : CubeName) × LeadsAt cube_of parts at name

-- The one of two names, each with its place, that has the greater cube; else the second.
abbrev pub greater_of : (CubeName → List ℤ) → Option (ℕ × CubeName) → ℕ × CubeName → ℕ × CubeName
greater_of cube_of None other = other
greater_of cube_of (Some one) other =
    cond (is_lt (name_order cube_of other.1 one.1)) one other
