-- What holds of lines, tokens and numbers, said without the folds that cut them.
use Rattle.std.specs.Prelude.{◌≡◌, ℕ, ◌<◌, Bool, true, false, not, ◌&&◌, List, [], ◌∷◌, ◌++◌, length, flat_map, filter, ℤ, nat_abs, codes, Some}
use Rattle.std.specs.List.{list_all}
use Rattle.std.specs.Str.{bytes_eq, all_ascii_digits}
use Rattle.std.specs.Fmt.{signed_decimal}
use Rattle.dimacs_tokens.specs.Bytes.{is_newline, is_white}
use Rattle.dimacs_tokens.specs.Cuts.{lines, tokens}
use Rattle.dimacs_tokens.specs.Numbers.{size_cap, token_value}
use Rattle.dimacs_tokens.specs.Seen.{seen_token, is_nil}
use Rattle.dimacs_tokens.specs.Texts.{is_line, text_of}

-- the lines of a text that ends its lines are just these
abbrev pub EndedLinesAreLines : Type 0
EndedLinesAreLines =
    (ls : List (List ℕ)) → list_all is_line ls ≡ true → lines (text_of ls) ≡ ls

-- and a last line of at least one byte needs no byte 10
abbrev pub ALastLineNeedsNoEnd : Type 0
ALastLineNeedsNoEnd =
    (ls : List (List ℕ)) (line : List ℕ) → list_all is_line ls ≡ true →
    is_line line ≡ true → is_nil line ≡ false →
    lines (text_of ls ++ line) ≡ ls ++ line ∷ []

-- neither white space nor byte 10
abbrev pub is_token_byte : ℕ → Bool
is_token_byte b = not (is_white b) && not (is_newline b)

-- a token: at least one byte, and neither white space nor byte 10
abbrev pub is_token : List ℕ → Bool
is_token t = not (is_nil t) && list_all is_token_byte t

-- all that is cut out of a text's lines are tokens
abbrev pub OnlyTokensAreCut : Type 0
OnlyTokensAreCut =
    (bs : List ℕ) → list_all (λ line. list_all is_token (tokens line)) (lines bs) ≡ true

-- and a line's tokens together are the line without its white space
abbrev pub NoByteIsLost : Type 0
NoByteIsLost =
    (line : List ℕ) → flat_map (λ t. t) (tokens line) ≡ filter (λ b. not (is_white b)) line

-- tokens with white space behind each are cut into just these
abbrev pub PartedTokensAreCut : Type 0
PartedTokensAreCut =
    (ts : List (List ℕ)) (gap : List ℕ) → list_all is_token ts ≡ true →
    is_nil gap ≡ false → list_all is_white gap ≡ true →
    tokens (flat_map (λ t. t ++ gap) ts) ≡ ts

-- and so are tokens with white space between them, without any behind the last
abbrev pub JoinedTokensAreCut : Type 0
JoinedTokensAreCut =
    (ts : List (List ℕ)) (last gap : List ℕ) → list_all is_token ts ≡ true →
    is_token last ≡ true → is_nil gap ≡ false → list_all is_white gap ≡ true →
    tokens (flat_map (λ t. t ++ gap) ts ++ last) ≡ ts ++ last ∷ []

-- the token that writes a number has this value
abbrev pub WrittenNumbersHaveTheirValue : Type 0
WrittenNumbersHaveTheirValue =
    (l : ℤ) → nat_abs l < size_cap → token_value (signed_decimal l) ≡ Some l

-- a zero before digits changes nothing, with a minus before it or without
abbrev pub LeadingZerosChangeNothing : Type 0
LeadingZerosChangeNothing =
    (ds : List ℕ) → is_nil ds ≡ false → all_ascii_digits ds ≡ true →
    (token_value (codes "0" ++ ds) ≡ token_value ds)
    × (token_value (codes "-0" ++ ds) ≡ token_value (codes "-" ++ ds))

-- eight bytes tell a token from each shorter word
abbrev pub WordsAreToldByHead : Type 0
WordsAreToldByHead =
    (t word : List ℕ) → length word < 8 →
    bytes_eq (seen_token t).head word ≡ bytes_eq t word
