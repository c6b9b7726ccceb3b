-- What a reader keeps of a token.
use Rattle.std.specs.Prelude.{ℕ, Bool, true, false, cond, nat_lt, List, [], ◌∷◌, ◌++◌, length, take, ◌==◌}
use Rattle.dimacs_tokens.specs.declared.numerals.Numeral.{Numeral}
use Rattle.dimacs_tokens.specs.Numbers.{numeral, more_numeral}

-- a token's first bytes, and what it says as a number
pub record SeenView : Type 0 where
  pub head : List ℕ
  pub number : Numeral

-- what is seen of a token
unfoldable pub seen_token : List ℕ → SeenView
seen_token t = record { head = take 8 t; number = numeral t }

-- whether a list has no element
abbrev pub is_nil : {X : Type 0} → List X → Bool
is_nil [] = true
is_nil (b ∷ bs) = false

-- whether no byte is seen
abbrev pub is_empty : SeenView → Bool
is_empty s = is_nil s.head

-- what is seen with one more byte, from what was seen without
unfoldable pub more_seen : SeenView → ℕ → SeenView
more_seen s b = record {
  head = cond (nat_lt (length s.head) 8) (s.head ++ b ∷ []) s.head;
  number = more_numeral s.number b;
}

-- whether the first byte is this one
abbrev pub list_begins : List ℕ → ℕ → Bool
list_begins [] b = false
list_begins (c ∷ cs) b = c == b

abbrev pub begins_with : SeenView → ℕ → Bool
begins_with s b = list_begins s.head b
