-- What a token says with one more byte at its end.
use Rattle.std.proofs.Common.{◌≡◌, ℕ, ◌+◌, ◌-◌, ◌*◌, min, Bool, true, false, cond, ◌&&◌, eqb, List, [], ◌∷◌, ◌++◌, sym, refl, ap, ◌∙◌, arith}
use Rattle.std.specs.Str.{all_ascii_digits}
use Rattle.std.specs.Str.Parse.{digits_value}
use Rattle.std.specs.Char.{is_ascii_digit, digit_value}
use Rattle.std.proofs.lemmas.Bool.Decides.{nat_tests}
use Rattle.std.proofs.lemmas.Int.Digits.{digits_value_push}
use Rattle.dimacs_tokens.specs.declared.numerals.Numeral.TheVariants.{Minus, Whole, Broken}
use Rattle.dimacs_tokens.specs.Numbers.{size_cap, digits_say, after_minus, numeral, digit_after, more_numeral}

-- a digit's value is its distance from the byte of 0
digit_value-digit : (b : ℕ) → is_ascii_digit b ≡ true → digit_value b ≡ b - 48
digit_value-digit b h = grind (arith, nat_tests)

and_true : (x : Bool) → x ≡ (x && true)
and_true true = refl
and_true false = refl

and_push : (x y z w : Bool) → w ≡ (y && z) → (x && w) ≡ ((x && y) && z)
and_push true y z w e = e
and_push false y z w e = refl

-- a test of each byte, with one more byte
all_digits_push : (ds : List ℕ) (b : ℕ) → all_ascii_digits (ds ++ b ∷ []) ≡ (all_ascii_digits ds && is_ascii_digit b)
all_digits_push [] b = sym (and_true (is_ascii_digit b))
all_digits_push (d ∷ ds) b = and_push (is_ascii_digit d) (all_ascii_digits ds) (is_ascii_digit b) _ (all_digits_push ds b)

-- the cap is applied at each digit or once at the end
capped_push : (v n : ℕ) → min (v * 10 + n) size_cap ≡ min (min v size_cap * 10 + n) size_cap
capped_push v n = omega arith

whole_push : (s : Bool) (v b : ℕ) (k : Bool) → is_ascii_digit b ≡ k → cond k (Whole s (min (v * 10 + digit_value b) size_cap)) Broken ≡ cond k (Whole s (min (min v size_cap * 10 + (b - 48)) size_cap)) Broken
whole_push s v b true e = ap (Whole s) (ap (λ d. min (v * 10 + d) size_cap) (digit_value-digit b e) ∙ capped_push v (b - 48))
whole_push s v b false e = refl

say_push : (s m : Bool) (v b : ℕ) → cond (m && is_ascii_digit b) (Whole s (min (v * 10 + digit_value b) size_cap)) Broken ≡ more_numeral (cond m (Whole s (min v size_cap)) Broken) b
unfolding more_numeral
say_push s true v b = whole_push s v b (is_ascii_digit b) refl
say_push s false v b = refl

digits_say_push : (s : Bool) (ds : List ℕ) (b : ℕ) → digits_say s (ds ++ b ∷ []) ≡ more_numeral (digits_say s ds) b
unfolding digits_say
digits_say_push s ds b =
    ap (λ m. cond m (Whole s (min (digits_value 10 (ds ++ b ∷ [])) size_cap)) Broken) (all_digits_push ds b)
    ∙ ap (λ v. cond (all_ascii_digits ds && is_ascii_digit b) (Whole s (min v size_cap)) Broken) (digits_value_push 10 ds b)
    ∙ say_push s (all_ascii_digits ds) (digits_value 10 ds) b

first_push : (s : Bool) (b : ℕ) → digits_say s (b ∷ []) ≡ digit_after s 0 b
unfolding digits_say more_numeral
first_push s b = digits_say_push s [] b

sign_push : (m : Bool) (c : ℕ) (cs : List ℕ) (b : ℕ) → cond m (after_minus (cs ++ b ∷ [])) (digits_say false ((c ∷ cs) ++ b ∷ [])) ≡ more_numeral (cond m (after_minus cs) (digits_say false (c ∷ cs))) b
unfolding more_numeral
sign_push true c [] b = first_push true b
sign_push true c (d ∷ ds) b = digits_say_push true (d ∷ ds) b
sign_push false c cs b = digits_say_push false (c ∷ cs) b

pub numeral_push : (t : List ℕ) (b : ℕ) → numeral (t ++ b ∷ []) ≡ more_numeral (numeral t) b
unfolding numeral more_numeral
numeral_push [] b = ap (cond (eqb b 45) Minus) (first_push false b)
numeral_push (c ∷ cs) b = sign_push (eqb c 45) c cs b
