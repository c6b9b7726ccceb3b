-- What the bytes of a listing tell.
use Rattle.std.specs.Prelude.{◌≡◌, List, ℤ}
use Rattle.std.specs.List.{All}
use Rattle.sat_terms.specs.Literals.{IsLiteral}
use Rattle.cube_text.specs.Listing.{listing}

-- Different lists of cubes have different listings.
abbrev pub TellsTheCubes : List (List ℤ) → List (List ℤ) → Type 0
TellsTheCubes cubes others =
    All (All IsLiteral) cubes → All (All IsLiteral) others →
    listing cubes ≡ listing others → cubes ≡ others
