-- The parts of a cube line's numbers.
use Rattle.std.proofs.Common.{◌≡◌, ℕ, ◌+◌, ◌-◌, ◌<◌, ◌^◌, Bool, true, List, [], ◌∷◌, ◌++◌, length, take, get_or, ℤ, pos, nat_abs, refl, sym, ap, ◌∙◌, arith, length-append}
use Rattle.std.specs.Prelude.{nat_lt}
use Rattle.std.specs.List.{All, list_all}
use Rattle.std.proofs.lemmas.Bool.{and_parts, and_from, lt-ltb, ltb-true}
use Rattle.std.proofs.lemmas.List.{take_more, take_all, take-append-le}
use Rattle.std.proofs.lemmas.List.Elements.{All-nil, All-cons, All-head, All-tail}
use Rattle.sat_terms.specs.Literals.{IsLiteral}
use Rattle.sat_terms.specs.Cubes.{rises_above}
use Rattle.checkpoint.specs.CubeLines.{AreCubeLine}

abbrev pub are_sized : List ℤ → Bool
are_sized c = list_all (λ l. nat_lt (nat_abs l) (2 ^ 31)) c

-- rising numbers of that size are literals, and literals are of that size
literals_from : (n : ℕ) (c : List ℤ) → rises_above n c ≡ true → are_sized c ≡ true → All IsLiteral c
literals_from n [] up h = All-nil IsLiteral
literals_from n (l ∷ c) up h =
    let (first, rest) = and_parts (nat_lt n (nat_abs l)) (rises_above (nat_abs l) c) up in
    let (small, others) = and_parts (nat_lt (nat_abs l) (2 ^ 31)) (are_sized c) h in
    let some : n < nat_abs l = ltb-true n (nat_abs l) first in
    let below : nat_abs l < 2 ^ 31 = ltb-true (nat_abs l) (2 ^ 31) small in
    All-cons IsLiteral l c (omega arith, below) (literals_from (nat_abs l) c rest others)

sized_from : (c : List ℤ) → All IsLiteral c → are_sized c ≡ true
sized_from [] h = refl
sized_from (l ∷ c) h =
    and_from (nat_lt (nat_abs l) (2 ^ 31)) (are_sized c) (lt-ltb (nat_abs l) (2 ^ 31) (All-head IsLiteral l c h).1)
    (sized_from c (All-tail IsLiteral l c h))

-- all numbers but the last
abbrev front : List ℤ → List ℤ
front numbers = take (length numbers - 1) numbers

front_is : (numbers cube : List ℤ) → numbers ≡ cube ++ pos 0 ∷ [] → front numbers ≡ cube
front_is numbers cube e =
    let long : length numbers ≡ length cube + 1 = ap length e ∙ length-append cube (pos 0 ∷ []) in
    let same : length numbers - 1 ≡ length cube = omega (arith, long) in
    (λ i. take (same i) (e i)) ∙ take-append-le (length cube) cube (pos 0 ∷ []) (omega arith) ∙ take_all (length cube) cube (omega arith)

pub gives_cube : (numbers : List ℤ) → (length numbers ≡ 0 → ⊥) → get_or numbers (length numbers - 1) (pos 0) ≡ pos 0 →
    rises_above 0 (front numbers) ≡ true → are_sized (front numbers) ≡ true → AreCubeLine numbers (front numbers)
gives_cube numbers some last up sized = record {
  literals = literals_from 0 (front numbers) up sized;
  rising = up;
  ended =
      let same : length numbers - 1 + 1 ≡ length numbers = omega (arith, some) in
      sym (take_all (length numbers) numbers (omega arith))
      ∙ ap (λ n. take n numbers) (sym same)
      ∙ take_more numbers (length numbers - 1) (pos 0) (omega (arith, some))
      ∙ ap (λ l. front numbers ++ l ∷ []) last;
}

-- where they do not rise, or one is too large, there is no cube
pub gives_none : (numbers cube : List ℤ) (a b : Bool) → a ≡ rises_above 0 (front numbers) → b ≡ are_sized (front numbers) →
    (a ≡ true → b ≡ true → ⊥) → AreCubeLine numbers cube → ⊥
gives_none numbers cube a b e f none h =
    let same : front numbers ≡ cube = front_is numbers cube h.ended in
    none (e ∙ ap (rises_above 0) same ∙ h.rising) (f ∙ ap are_sized same ∙ sized_from cube h.literals)
