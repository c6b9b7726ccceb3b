-- Which tokens are numbers, and their values.
use Rattle.std.specs.Prelude.{ℕ, zero, suc, ◌+◌, ◌-◌, ◌*◌, min, Bool, true, false, cond, ◌==◌, List, [], ◌∷◌, ℤ, pos, negsuc, Option, Some, None}
use Rattle.std.specs.Str.{all_ascii_digits}
use Rattle.std.specs.Str.Parse.{digits_value}
use Rattle.std.specs.Char.{is_ascii_digit}
use Rattle.dimacs_tokens.specs.declared.numerals.Numeral.{Numeral}
use Rattle.dimacs_tokens.specs.declared.numerals.Numeral.TheVariants.{Nothing, Minus, Whole, Broken}

-- every size from here on counts as this one: no rule of a DIMACS text tells such sizes apart
abbrev pub size_cap : ℕ
size_cap = 4294967295

-- decimal digits with this sign
unfoldable pub digits_say : Bool → List ℕ → Numeral
digits_say negative ds =
    cond (all_ascii_digits ds) (Whole negative (min (digits_value 10 ds) size_cap)) Broken

-- what follows a minus
abbrev pub after_minus : List ℕ → Numeral
after_minus [] = Minus
after_minus (b ∷ bs) = digits_say true (b ∷ bs)

-- what the bytes of a token say as a number: digits, with one minus (45) before them or without
unfoldable pub numeral : List ℕ → Numeral
numeral [] = Nothing
numeral (b ∷ bs) = cond (b == 45) (after_minus bs) (digits_say false (b ∷ bs))

-- the value, where it is a number; a minus before the value 0 is none
abbrev pub value_of : Numeral → Option ℤ
value_of Nothing = None
value_of Minus = None
value_of (Whole false n) = Some (pos n)
value_of (Whole true zero) = None
value_of (Whole true (suc n)) = Some (negsuc n)
value_of Broken = None

-- the value of a number token
abbrev pub token_value : List ℕ → Option ℤ
token_value t = value_of (numeral t)

-- a number with one more byte
abbrev pub digit_after : Bool → ℕ → ℕ → Numeral
digit_after negative n b =
    cond (is_ascii_digit b) (Whole negative (min (n * 10 + (b - 48)) size_cap)) Broken

-- what a token says with one more byte, from what it said without
unfoldable pub more_numeral : Numeral → ℕ → Numeral
more_numeral Nothing b = cond (b == 45) Minus (digit_after false 0 b)
more_numeral Minus b = digit_after true 0 b
more_numeral (Whole negative n) b = digit_after negative n b
more_numeral Broken b = Broken
