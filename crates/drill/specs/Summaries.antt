-- The literals that all cubes of a listing hold.
use Rattle.std.specs.Prelude.{◌≡◌, ◌≢◌, ◌↔◌, ℕ, ◌<◌, Bool, true, nat_abs, List, [], ◌∷◌, ◌++◌, filter, length, ℤ, codes}
use Rattle.std.specs.List.{list_all}
use Rattle.sat_terms.specs.Assignments.{lies_in}
use Rattle.sat_terms.specs.Cubes.{has_literal, is_among}
use Rattle.sat_terms.specs.RightList.{IsRightList, IsWanted}
use Rattle.dimacs_tokens.specs.Texts.{text_of}
use Rattle.cube_text.specs.Lines.{zero_ended}

abbrev pub first_cube : List (List ℤ) → List ℤ
first_cube [] = []
first_cube (c ∷ cubes) = c

-- Those of the literals that each cube holds.
abbrev pub chosen : List (List ℤ) → List ℤ → List ℤ
chosen cubes lits = filter (λ l. list_all (λ c. has_literal c l) cubes) lits

-- The literals that each cube holds, in the order of the first cube. Without a cube there are none.
abbrev pub fixed_literals : List (List ℤ) → List ℤ
fixed_literals cubes = chosen cubes (first_cube cubes)

-- The line of these literals, as `f -3 4 0`, and then the line `s ALL`.
abbrev pub summary : List ℤ → List ℕ
summary lits = text_of ((codes "f " ++ zero_ended lits) ∷ codes "s ALL" ∷ [])

-- In a right list with a cube, a literal of a shown variable is fixed exactly if it is true in each
-- wanted assignment.
abbrev pub FixedIsTrueEverywhere : Type 0
FixedIsTrueEverywhere =
    (f : List (List ℤ)) (p : List ℕ) (u : List ℤ) (cubes : List (List ℤ)) (l : ℤ) →
    IsRightList f p u cubes → cubes ≢ [] → 0 < nat_abs l → is_among p (nat_abs l) ≡ true →
    (has_literal (fixed_literals cubes) l ≡ true) ↔
    ((a : List Bool) → length a ≡ length p → IsWanted f p u a → lies_in p a (l ∷ []) ≡ true)
