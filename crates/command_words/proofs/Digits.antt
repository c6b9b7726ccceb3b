-- What decimal digits write, byte by byte.
use Rattle.std.proofs.Common.{◌≡◌, ℕ, zero, suc, ◌+◌, ◌-◌, ◌*◌, ◌<◌, min, Bool, true, false, cond, ◌&&◌, nat_le, List, [], ◌∷◌, ◌++◌, length, take, get_or, Option, Some, None, sym, refl, ap, ◌∙◌, inl, inr, arith}
use Rattle.std.specs.Str.{all_ascii_digits}
use Rattle.std.specs.Str.Parse.{digits_value}
use Rattle.std.specs.Char.{is_ascii_digit, digit_value}
use Rattle.std.proofs.Math.Seq.{take-suc}
use Rattle.std.proofs.lemmas.Bool.{cases_Bool, and_parts, leb-false, lt-leb}
use Rattle.std.proofs.lemmas.Bool.Decides.{nat_tests}
use Rattle.std.proofs.lemmas.Int.Digits.{digits_value_push}
use Rattle.command_words.specs.Commands.{number_upto}

digit_value-digit : (b : ℕ) → is_ascii_digit b ≡ true → digit_value b ≡ b - 48
digit_value-digit b h = grind (arith, nat_tests)

-- digits, and one more of them
pub digits_push : (ds : List ℕ) (b : ℕ) → all_ascii_digits ds ≡ true → is_ascii_digit b ≡ true → all_ascii_digits (ds ++ b ∷ []) ≡ true
digits_push [] b all here = rw here refl
digits_push (d ∷ ds) b all here =
    let (first, rest) = and_parts (is_ascii_digit d) (all_ascii_digits ds) all in
    rw first (digits_push ds b rest here)

take-more : (text : List ℕ) (i d : ℕ) → i < length text → take (i + 1) text ≡ take i text ++ get_or text i d ∷ []
take-more text i d inside = let next : i + 1 ≡ suc i = omega arith in ap (λ n. take n text) next ∙ take-suc text i d inside

pub digits_more : (text : List ℕ) (i d : ℕ) → i < length text → all_ascii_digits (take i text) ≡ true → is_ascii_digit (get_or text i d) ≡ true → all_ascii_digits (take (i + 1) text) ≡ true
digits_more text i d inside all here = ap all_ascii_digits (take-more text i d inside) ∙ digits_push (take i text) (get_or text i d) all here

capped : (v n cap : ℕ) → min (min (min v cap * 10) cap + n) cap ≡ min (v * 10 + n) cap
capped v n cap = omega arith

-- the value is cut off at a cap, at each digit
pub value_more : (text : List ℕ) (i d value cap : ℕ) → i < length text → is_ascii_digit (get_or text i d) ≡ true → value ≡ min (digits_value 10 (take i text)) cap →
    min (min (value * 10) cap + (get_or text i d - 48)) cap ≡ min (digits_value 10 (take (i + 1) text)) cap
value_more text i d value cap inside here same =
    ap (λ v. min (min (v * 10) cap + (get_or text i d - 48)) cap) same
    ∙ capped (digits_value 10 (take i text)) (get_or text i d - 48) cap
    ∙ ap (λ n. min (digits_value 10 (take i text) * 10 + n) cap) (sym (digit_value-digit (get_or text i d) here))
    ∙ ap (λ v. min v cap) (sym (ap (digits_value 10) (take-more text i d inside) ∙ digits_value_push 10 (take i text) (get_or text i d)))

not_digits : (text : List ℕ) (i d : ℕ) → i < length text → is_ascii_digit (get_or text i d) ≡ false → all_ascii_digits text ≡ false
not_digits [] i d inside none = absurd (omega arith)
not_digits (c ∷ text) zero d inside none = rw none refl
not_digits (c ∷ text) (suc i) d inside none = elim (cases_Bool (is_ascii_digit c)) [
  | inl e ↦ rw e (not_digits text i d (omega arith) none)
  | inr e ↦ rw e refl
]

-- a byte that is no digit
pub no_number : (most : ℕ) (text : List ℕ) (i d : ℕ) → i < length text → is_ascii_digit (get_or text i d) ≡ false → None ≡ number_upto most text
no_number most text i d inside none = rw (not_digits text i d inside none) refl

-- the value of digits alone, up to the cap
pub all_number : (most cap value : ℕ) (text : List ℕ) → most < cap → all_ascii_digits text ≡ true → value ≡ min (digits_value 10 text) cap →
    cond (nat_le 1 value && nat_le value most) (Some value) None ≡ number_upto most text
all_number most cap value text low all same = elim (cases_Bool (nat_le (digits_value 10 text) most)) [
  | inl e ↦ (let v : value ≡ digits_value 10 text = within e in rw (all, v) refl)
  | inr e ↦
      let high = leb-false (digits_value 10 text) most e in
      let above : nat_le value most ≡ false = lt-leb value most (omega arith) in
      rw (all, e, above) (both_false (nat_le 1 value) (nat_le 1 (digits_value 10 text)) (Some value) (Some (digits_value 10 text)))
]
  where
    within : nat_le (digits_value 10 text) most ≡ true → value ≡ digits_value 10 text
    within e = grind (arith, nat_tests)

    both_false : (x y : Bool) (v w : Option ℕ) → cond (x && false) v None ≡ cond (y && false) w None
    both_false true true v w = refl
    both_false true false v w = refl
    both_false false true v w = refl
    both_false false false v w = refl
