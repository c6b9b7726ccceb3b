-- The text of a verdict.
use Rattle.std.specs.Prelude.{ℕ, List, [], ◌∷◌, ◌++◌, codes}
use Rattle.std.specs.Fmt.{decimal}
use Rattle.dimacs_tokens.specs.Texts.{text_of}
use Rattle.cube_check.specs.declared.verdict.Verdict.{Verdict}
use Rattle.cube_check.specs.declared.verdict.Verdict.TheVariants.{Right, NotMet, Overlap}

-- a word, and two numbers with a space before each
abbrev pub places_line : List ℕ → ℕ → ℕ → List ℕ
places_line word i j = word ++ codes " " ++ decimal i ++ codes " " ++ decimal j

-- the line of a verdict, as `s RIGHT`, `s NOTMET 2 1` or `s OVERLAP 2 3`
abbrev pub verdict_line : Verdict → List ℕ
verdict_line Right = codes "s RIGHT"
verdict_line (NotMet i j) = places_line (codes "s NOTMET") i j
verdict_line (Overlap i j) = places_line (codes "s OVERLAP") i j

-- this line alone
abbrev pub verdict_text : Verdict → List ℕ
verdict_text v = text_of (verdict_line v ∷ [])
