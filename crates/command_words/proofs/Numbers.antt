-- The numbers of options, as `clap` tests and reads them.
use Rattle.std.proofs.Common.{◌≡◌, ℕ, ◌<◌, ◌≤◌, ◌^◌, ◌==◌, true, false, ◌&&◌, nat_le, nat_lt, List, [], ◌∷◌, length, Option, Some, None, option_map, Result, Ok, Err, refl, ap, ◌∙◌, arith, lt-ltb, pos}
use Rattle.std.specs.Char.{digit_value}
use Rattle.std.specs.List.{list_all}
use Rattle.std.specs.Option.{option_and_then}
use Rattle.std.specs.Str.{all_ascii_digits}
use Rattle.std.specs.Str.Parse.{AllDigits, IsNumeral, ParsesUnsigned, digits_value, signed_digits_value, without_leading_plus, without_leading_sign}
use Rattle.std.proofs.lemmas.Bool.{and_parts, leb-true, ne_eqb}
use Rattle.std.proofs.lemmas.Str.Parse.{numerals_by_value, tells_all_ascii_digits}
use Rattle.clap.specs.ValueTests.{accepts, is_numeral}
use Rattle.clap.specs.Matches.{ReadsOne}
use Rattle.clap.specs.Walk.{row_text}
use Rattle.clap.specs.declared.builder.value_parser.ValueParser.TheVariants.{Signed, Unsigned}
use Rattle.command_words.specs.declared.reading.Setting.{Setting}
use Rattle.command_words.specs.declared.reading.Setting.TheVariants.{Workers, Budget, Size}
use Rattle.command_words.proofs.Uses.{in_range, most_of}
use Rattle.command_words.proofs.Walks.{no_minus, parser_of, row_for}

-- ---- texts of digits

all_digits : (v : List ℕ) → all_ascii_digits v ≡ true → AllDigits 10 v
all_digits v h = (numerals_by_value (λ ds. all_ascii_digits ds ≡ true) tells_all_ascii_digits).to v h

list_digits : (v : List ℕ) → AllDigits 10 v → list_all (λ d. nat_lt (digit_value d) 10) v ≡ true
list_digits [] h = refl
list_digits (d ∷ ds) h = rw (lt-ltb (digit_value d) 10 h.0) (list_digits ds h.1)

unlike : (d : ℕ) (ds : List ℕ) (c : ℕ) → all_ascii_digits (d ∷ ds) ≡ true → c < 48 → (d == c) ≡ false
unlike d ds c h low = let k = (tells_all_ascii_digits.parts d ds h).0 in ne_eqb d c (λ e. omega (arith, k))

no_plus : (v : List ℕ) → all_ascii_digits v ≡ true → without_leading_plus v ≡ v
no_plus [] h = refl
no_plus (d ∷ ds) h = rw (unlike d ds 43 h (omega arith)) refl

no_sign : (v : List ℕ) → all_ascii_digits v ≡ true → without_leading_sign v ≡ v
no_sign [] h = refl
no_sign (d ∷ ds) h = rw (unlike d ds 45 h (omega arith), unlike d ds 43 h (omega arith)) refl

not_negative : (v : List ℕ) → all_ascii_digits v ≡ true → signed_digits_value 10 v ≡ pos (digits_value 10 v)
not_negative [] h = refl
not_negative (d ∷ ds) h = rw (unlike d ds 45 h (omega arith), unlike d ds 43 h (omega arith)) refl

some_digit : (v : List ℕ) → 1 ≤ digits_value 10 v → 0 < length v
some_digit [] h = absurd (omega arith)
some_digit (d ∷ ds) h = omega arith

-- ---- ranges

pub record Fits (s : Setting) (v : List ℕ) : Type 0 where
  pub digits : all_ascii_digits v ≡ true
  pub from : nat_le 1 (digits_value 10 v) ≡ true
  pub upto : nat_le (digits_value 10 v) (most_of s) ≡ true

pub range_parts : (s : Setting) (v : List ℕ) → in_range s v ≡ true → Fits s v
range_parts s v h =
    let outer = and_parts (all_ascii_digits v) (nat_le 1 (digits_value 10 v) && nat_le (digits_value 10 v) (most_of s)) h in
    let inner = and_parts (nat_le 1 (digits_value 10 v)) (nat_le (digits_value 10 v) (most_of s)) outer.1 in
    record { digits = outer.0; from = inner.0; upto = inner.1 }

pub least : (s : Setting) (v : List ℕ) → Fits s v → 1 ≤ digits_value 10 v
least s v f = leb-true 1 (digits_value 10 v) f.from

pub most : (s : Setting) (v : List ℕ) → Fits s v → digits_value 10 v ≤ most_of s
most s v f = leb-true (digits_value 10 v) (most_of s) f.upto

numeral : (s : Setting) (v : List ℕ) → Fits s v → is_numeral v ≡ true
numeral s v f =
    let low = least s v f in
    let some : nat_lt 0 (length v) ≡ true = lt-ltb 0 (length v) (some_digit v low) in
    rw (some, list_digits v (all_digits v f.digits)) refl

signed_passes : (s : Setting) (v : List ℕ) → Fits s v → most_of s < 2 ^ 63
    → accepts false (Signed (pos 1) (pos (most_of s))) v ≡ true
signed_passes s v f small =
    let high = most s v f in
    let fits : nat_lt (digits_value 10 v) (2 ^ 63) ≡ true = lt-ltb (digits_value 10 v) (2 ^ 63) (omega arith) in
    rw (not_negative v f.digits, no_sign v f.digits, numeral s v f, fits, f.from, f.upto) refl

budget_passes : (v : List ℕ) → Fits Budget v → accepts false (Unsigned 1 4611686018427387904) v ≡ true
budget_passes v f =
    let high = most Budget v f in
    let fits : nat_lt (digits_value 10 v) (2 ^ 64) ≡ true = lt-ltb (digits_value 10 v) (2 ^ 64) (omega arith) in
    rw (no_plus v f.digits, numeral Budget v f, fits, f.from, f.upto) refl

passes : (s : Setting) (v : List ℕ) → Fits s v → accepts false (parser_of s) v ≡ true
passes Workers v f = signed_passes Workers v f (omega arith)
passes Budget v f = budget_passes v f
passes Size v f = signed_passes Size v f (omega arith)

pub fits_parser : (s : Setting) (v : List ℕ) → in_range s v ≡ true → (all_ascii_digits v ≡ true) × (accepts false (parser_of s) v ≡ true)
fits_parser s v h = let f = range_parts s v h in (f.digits, passes s v f)

-- ---- what is read

text_read : (s : Setting) (v : List ℕ) → all_ascii_digits v ≡ true → row_text (row_for s v) ≡ Some v
text_read Workers v d = rw (no_minus v d) refl
text_read Budget v d = refl
text_read Size v d = rw (no_minus v d) refl

-- each text is a number in the range of the option
abbrev pub InRange : Setting → Option (List ℕ) → Type 0
InRange s o = (v : List ℕ) → o ≡ Some v → in_range s v ≡ true

pub texts_read : (s : Setting) (o : Option (List ℕ)) → InRange s o → option_and_then row_text (option_map (row_for s) o) ≡ o
texts_read s None h = refl
texts_read s (Some v) h = text_read s v (range_parts s v (h v refl)).digits

module _ {E : Type 0} (G : List ℕ → Result ℕ E → Type 0) (k : ℕ) (only : (u : List ℕ) (x : Result ℕ E) → G u x → ParsesUnsigned k 10 u x) where
  number_read : (v : List ℕ) (r : Option ℕ) → all_ascii_digits v ≡ true → 0 < length v → digits_value 10 v < 2 ^ k → ReadsOne G v r
      → r ≡ Some (digits_value 10 v)
  number_read v (Some n) d some small read = ap Some ((only v (Ok n) read).1 ∙ ap (digits_value 10) (no_plus v d))
  number_read v None d some small read =
      let is : IsNumeral 10 (without_leading_plus v) = rw (no_plus v d) (some, all_digits v d) in
      let fits : digits_value 10 (without_leading_plus v) < 2 ^ k = rw (no_plus v d) small in
      absurd (only v (Err read.0) read.1 (is, fits))

  -- the number that a getter of the matches gives is that of the digits
  pub numbers_read : (s : Setting) (one o : Option (List ℕ)) (r : Option ℕ) → one ≡ o → InRange s o → most_of s < 2 ^ k
      → (one ≡ None → r ≡ None) → ((t : List ℕ) → one ≡ Some t → ReadsOne G t r) → r ≡ option_map (digits_value 10) o
  numbers_read s one None r same h fits none value = none same
  numbers_read s one (Some v) r same h fits none value =
      let f = range_parts s v (h v refl) in
      let low = least s v f in
      let high = most s v f in
      number_read v r f.digits (some_digit v low) (omega arith) (value v same)
