-- Texts that are made of lines.
use Rattle.std.specs.Prelude.{ℕ, Bool, not, List, ◌++◌, flat_map, codes}
use Rattle.std.specs.List.{list_all}
use Rattle.dimacs_tokens.specs.Bytes.{is_newline}

-- a line without byte 10
abbrev pub is_line : List ℕ → Bool
is_line line = list_all (λ b. not (is_newline b)) line

-- a line and the byte 10 that ends it
abbrev pub ended : List ℕ → List ℕ
ended line = line ++ codes "\n"

-- the text of these lines
abbrev pub text_of : List (List ℕ) → List ℕ
text_of ls = flat_map ended ls
