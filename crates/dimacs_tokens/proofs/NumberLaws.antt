-- Numbers that are written in decimal are read back, leading zeros change nothing, and words are told by their head.
use Rattle.std.proofs.Common.{◌≡◌, ℕ, zero, suc, ◌^◌, ◌<◌, min, Bool, true, false, ◌&&◌, eqb, List, [], ◌∷◌, length, take, ℤ, pos, negsuc, nat_abs, sym, refl, ap, ◌∙◌, arith}
use Rattle.std.specs.Fmt.{decimal, signed_decimal}
use Rattle.std.specs.List.{list_all}
use Rattle.std.specs.Str.{all_ascii_digits, bytes_eq}
use Rattle.std.specs.Str.Parse.{digits_value}
use Rattle.std.specs.Char.{is_ascii_digit}
use Rattle.std.proofs.lemmas.Bool.{cond-true, cond-false, and_parts, and_from}
use Rattle.std.proofs.lemmas.Bool.Decides.{nat_tests}
use Rattle.std.proofs.lemmas.Str.Parse.{IsNumeralModel, numerals_by_value, tells_all_ascii_digits}
use Rattle.std.proofs.lemmas.Fmt.{digits_decimal, digits_value-decimal, decimal_nonempty}
use Rattle.dimacs_tokens.specs.declared.numerals.Numeral.TheVariants.{Whole}
use Rattle.dimacs_tokens.specs.Numbers.{size_cap, digits_say, numeral, value_of}
use Rattle.dimacs_tokens.specs.Seen.{seen_token}
use Rattle.dimacs_tokens.specs.Bytes.{is_white}
use Rattle.dimacs_tokens.specs.Laws.{is_token_byte, is_token, WrittenNumbersHaveTheirValue, LeadingZerosChangeNothing, WordsAreToldByHead}

own : IsNumeralModel (λ ds. all_ascii_digits ds ≡ true) (digits_value 10)
own = numerals_by_value _ tells_all_ascii_digits

digit_is_no_minus : (b : ℕ) → is_ascii_digit b ≡ true → eqb b 45 ≡ false
digit_is_no_minus b h = grind (arith, nat_tests)

-- digits alone
numeral-digits : (ds : List ℕ) → 0 < length ds → all_ascii_digits ds ≡ true → numeral ds ≡ digits_say false ds
unfolding numeral
numeral-digits [] nonempty h = absurd (omega arith)
numeral-digits (b ∷ bs) nonempty h =
    cond-false (eqb b 45) _ _ (digit_is_no_minus b (and_parts (is_ascii_digit b) (all_ascii_digits bs) h).0)

-- digits after a minus
numeral-minus : (ds : List ℕ) → 0 < length ds → numeral (45 ∷ ds) ≡ digits_say true ds
unfolding numeral
numeral-minus [] nonempty = absurd (omega arith)
numeral-minus (b ∷ bs) nonempty = refl

digits_say-decimal : (s : Bool) (n : ℕ) → n < size_cap → digits_say s (decimal n) ≡ Whole s n
unfolding digits_say
digits_say-decimal s n small =
    let fits : n < 2 ^ 64 = omega arith in
    cond-true (all_ascii_digits (decimal n)) _ _ (digits_decimal own n fits)
    ∙ ap (λ v. Whole s (min v size_cap)) (digits_value-decimal own n fits)
    ∙ ap (Whole s) (omega arith)

pub written_value : WrittenNumbersHaveTheirValue
written_value (pos n) small =
    let fits : n < 2 ^ 64 = omega arith in
    ap value_of (numeral-digits (decimal n) (decimal_nonempty n fits) (digits_decimal own n fits) ∙ digits_say-decimal false n small)
written_value (negsuc n) small =
    let fits : suc n < 2 ^ 64 = omega arith in
    ap value_of (numeral-minus (decimal (suc n)) (decimal_nonempty (suc n) fits) ∙ digits_say-decimal true (suc n) small)

-- digits are no white space, and end no line
digit_is_token_byte : (b : ℕ) → is_ascii_digit b ≡ true → is_token_byte b ≡ true
unfolding is_white
digit_is_token_byte b h = grind (arith, nat_tests)

digits_are_token_bytes : (ds : List ℕ) → all_ascii_digits ds ≡ true → list_all is_token_byte ds ≡ true
digits_are_token_bytes [] h = refl
digits_are_token_bytes (b ∷ bs) h =
    let k = and_parts (is_ascii_digit b) (all_ascii_digits bs) h in
    and_from (is_token_byte b) (list_all is_token_byte bs) (digit_is_token_byte b k.0) (digits_are_token_bytes bs k.1)

some_bytes : (ds : List ℕ) → 0 < length ds → list_all is_token_byte ds ≡ true → is_token ds ≡ true
some_bytes [] nonempty h = absurd (omega arith)
some_bytes (b ∷ bs) nonempty h = h

pub decimal_is_token : (n : ℕ) → n < 2 ^ 64 → is_token (decimal n) ≡ true
decimal_is_token n fits =
    some_bytes (decimal n) (decimal_nonempty n fits) (digits_are_token_bytes (decimal n) (digits_decimal own n fits))

-- a written number is a token
pub written_is_token : (l : ℤ) → nat_abs l < size_cap → is_token (signed_decimal l) ≡ true
unfolding is_white
written_is_token (pos n) small = decimal_is_token n (omega arith)
written_is_token (negsuc n) small =
    let fits : suc n < 2 ^ 64 = omega arith in
    digits_are_token_bytes (decimal (suc n)) (digits_decimal own (suc n) fits)

pub leading_zeros : LeadingZerosChangeNothing
unfolding numeral digits_say
leading_zeros [] nonempty h = cc
leading_zeros (d ∷ ds) nonempty h =
    (ap value_of (sym (numeral-digits (d ∷ ds) (omega arith) h)), refl)

take_tells : (n : ℕ) (t word : List ℕ) → length word < n → bytes_eq (take n t) word ≡ bytes_eq t word
take_tells zero t word h = absurd (omega arith)
take_tells (suc n) [] word h = refl
take_tells (suc n) (x ∷ xs) [] h = refl
take_tells (suc n) (x ∷ xs) (y ∷ ys) h = ap (λ r. eqb x y && r) (take_tells n xs ys (omega arith))

pub words_by_head : WordsAreToldByHead
unfolding seen_token
words_by_head t word h = take_tells 8 t word h
