-- The listing of cubes.
use Rattle.std.specs.Prelude.{ℕ, List, [], ◌∷◌, ◌++◌, map, ℤ, codes}
use Rattle.dimacs_tokens.specs.Texts.{text_of}
use Rattle.cube_text.specs.Lines.{zero_ended}

-- the line of a cube, as `v -1 2 0`; that of the empty cube is `v 0`
abbrev pub cube_line : List ℤ → List ℕ
cube_line cube = codes "v " ++ zero_ended cube

-- the lines of the cubes in order, and then the line `s ALL`
abbrev pub listing : List (List ℤ) → List ℕ
listing cubes = text_of (map cube_line cubes ++ codes "s ALL" ∷ [])
