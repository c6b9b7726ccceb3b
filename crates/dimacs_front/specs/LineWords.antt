-- The words that begin a line of a kind.
use Rattle.std.specs.Prelude.{ℕ, Bool, true, false, ◌&&◌, List, [], ◌∷◌, codes}
use Rattle.std.specs.Str.{bytes_eq}

-- whether these words are the first tokens of a line
abbrev pub begins_by : List (List ℕ) → List (List ℕ) → Bool
begins_by [] ts = true
begins_by (w ∷ ws) [] = false
begins_by (w ∷ ws) (t ∷ ts) = bytes_eq t w && begins_by ws ts

-- the words of a line of this kind, as of a show line
abbrev pub words_of : List ℕ → List (List ℕ)
words_of kind = codes "c" ∷ codes "p" ∷ kind ∷ []

-- the words of the first line of a text of this kind, as of a saved text
abbrev pub own_words : List ℕ → List (List ℕ)
own_words kind = codes "c" ∷ codes "allsat" ∷ kind ∷ []
