-- A text cut into lines, and a line into tokens.
use Rattle.std.specs.Prelude.{ℕ, cond, List, [], ◌∷◌, ◌++◌, fold}
use Rattle.dimacs_tokens.specs.Bytes.{is_newline, is_white}

-- the parts that are whole, and the part that may go on
pub record Cut : Type 0 where
  pub whole : List (List ℕ)
  pub open_part : List ℕ

abbrev pub nothing_cut : Cut
nothing_cut = record { whole = []; open_part = [] }

-- the parts with one more, unless it has no byte
abbrev pub with_part : List (List ℕ) → List ℕ → List (List ℕ)
with_part parts [] = parts
with_part parts (b ∷ bs) = parts ++ (b ∷ bs) ∷ []

-- a byte 10 ends a line, which may be empty; any other byte belongs to the open line
abbrev pub line_byte : Cut → ℕ → Cut
line_byte c b =
    cond (is_newline b)
    (record { whole = c.whole ++ c.open_part ∷ []; open_part = [] })
    (record { whole = c.whole; open_part = c.open_part ++ b ∷ [] })

-- white space ends a token, if there is one; any other byte belongs to the open token
abbrev pub token_byte : Cut → ℕ → Cut
token_byte c b =
    cond (is_white b)
    (record { whole = with_part c.whole c.open_part; open_part = [] })
    (record { whole = c.whole; open_part = c.open_part ++ b ∷ [] })

unfoldable pub cut_lines : List ℕ → Cut
cut_lines bs = fold line_byte nothing_cut bs

unfoldable pub cut_tokens : List ℕ → Cut
cut_tokens line = fold token_byte nothing_cut line

-- the lines of a text that byte 10 ends, without it
abbrev pub complete : List ℕ → List (List ℕ)
complete bs = (cut_lines bs).whole

-- the bytes after the last byte 10
abbrev pub rest_of : List ℕ → List ℕ
rest_of bs = (cut_lines bs).open_part

-- the lines of a text: bytes after the last byte 10 are one more line, if there are any
abbrev pub lines : List ℕ → List (List ℕ)
lines bs = with_part (complete bs) (rest_of bs)

-- the longest runs of a line's bytes that are not white space
abbrev pub tokens : List ℕ → List (List ℕ)
tokens line = with_part (cut_tokens line).whole (cut_tokens line).open_part
