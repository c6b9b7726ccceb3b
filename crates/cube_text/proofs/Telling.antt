-- A listing tells its cubes.
use Rattle.std.proofs.Common.{◌≡◌, ◌≢◌, ℕ, suc, ◌+◌, ◌<◌, ◌^◌, ◌%◌, List, [], ◌∷◌, ◌++◌, length, drop, get_or, flat_map, ℤ, pos, negsuc, refl, sym, ◌∙◌, ap, subst, append_assoc, arith, length-append}
use lib.Signed.{mag}
use Rattle.std.specs.Prelude.{nat_abs}
use Rattle.std.specs.List.{All}
use Rattle.std.specs.Fmt.{decimal, signed_decimal}
use Rattle.std.proofs.lemmas.List.Elements.{All-head, All-tail}
use Rattle.std.proofs.lemmas.Fmt.{decimal_by_steps, decimal_nonempty, signed_decimal_injective}
use Rattle.sat_terms.specs.Literals.{IsLiteral}
use Rattle.dimacs_tokens.specs.Texts.{ended}
use Rattle.cube_text.specs.Lines.{number_word, zero_ended}
use Rattle.cube_text.specs.Listing.{cube_line, listing}
use Rattle.cube_text.specs.Laws.{TellsTheCubes}

-- no byte of the list is b
Lacks : ℕ → List ℕ → Type 0
Lacks b [] = Unit {0}
Lacks b (x ∷ xs) = (x ≢ b) × Lacks b xs

-- where two lists are cut at the first b, their fronts and their rests are the same
record SameParts (xs us ys vs : List ℕ) : Type 0 where
  front : xs ≡ us
  rest : ys ≡ vs

same_parts : (b : ℕ) (xs us ys vs : List ℕ) → Lacks b xs → Lacks b us → xs ++ b ∷ ys ≡ us ++ b ∷ vs → SameParts xs us ys vs
unfolding Lacks
same_parts b [] [] ys vs lacks others same = record { front = refl; rest = cc }
same_parts b [] (u ∷ us) ys vs lacks others same = absurd (others.0 cc)
same_parts b (x ∷ xs) [] ys vs lacks others same = absurd (lacks.0 cc)
same_parts b (x ∷ xs) (u ∷ us) ys vs lacks others same =
    let tail : xs ++ b ∷ ys ≡ us ++ b ∷ vs = cc in
    let parts = same_parts b xs us ys vs lacks.1 others.1 tail in
    record { front = let e = parts.front in cc; rest = parts.rest }

Lacks-append : (b : ℕ) (xs ys : List ℕ) → Lacks b xs → Lacks b ys → Lacks b (xs ++ ys)
unfolding Lacks
Lacks-append b [] ys first second = second
Lacks-append b (x ∷ xs) ys first second = (first.0, Lacks-append b xs ys first.1 second)

Lacks-decimal : (b n : ℕ) → b < 48 → n < 2 ^ 64 → Lacks b (decimal n)
unfolding Lacks
Lacks-decimal b n small fits = decimal_by_steps (λ _ ds. Lacks b ds)
    (λ d h. ((λ e. absurd (omega arith)), tt {0}))
    (λ k ds h lacks. Lacks-append b ds ((48 + k % 10) ∷ []) lacks ((λ e. absurd (omega arith)), tt {0}))
    n fits

-- neither a space nor byte 10 is in a number
Lacks-signed : (b : ℕ) (l : ℤ) → b < 45 → nat_abs l < 2 ^ 31 → Lacks b (signed_decimal l)
unfolding Lacks
Lacks-signed b (pos n) small fits = Lacks-decimal b n (omega arith) (omega arith)
Lacks-signed b (negsuc n) small fits = ((λ e. absurd (omega arith)), Lacks-decimal b (suc n) (omega arith) (omega arith))

Lacks-word : (l : ℤ) → nat_abs l < 2 ^ 31 → Lacks 10 (number_word l)
unfolding Lacks
Lacks-word l fits = Lacks-append 10 (signed_decimal l) (32 ∷ []) (Lacks-signed 10 l (omega arith) fits) ((λ e. absurd (omega arith)), tt {0})

Lacks-zero_ended : (c : List ℤ) → All IsLiteral c → Lacks 10 (zero_ended c)
unfolding Lacks
Lacks-zero_ended [] literals = ((λ e. absurd (omega arith)), tt {0})
Lacks-zero_ended (l ∷ c) literals =
    subst (λ (bytes : List ℕ). Lacks 10 bytes) (sym (append_assoc (number_word l) (flat_map number_word c) (48 ∷ [])))
    (Lacks-append 10 (number_word l) (zero_ended c) (Lacks-word l (All-head IsLiteral l c literals).1) (Lacks-zero_ended c (All-tail IsLiteral l c literals)))

-- 0 alone is no line of numbers that has one: it is too short
nonempty_signed : (l : ℤ) → nat_abs l < 2 ^ 31 → 0 < length (signed_decimal l)
nonempty_signed (pos n) fits = decimal_nonempty n (omega arith)
nonempty_signed (negsuc n) fits = omega arith

not_only_zero : (l : ℤ) (rest : List ℕ) → nat_abs l < 2 ^ 31 → 48 ∷ [] ≡ number_word l ++ rest → ⊥
not_only_zero l rest fits same = omega (arith, ap length same, length-append (number_word l) rest, length-append (signed_decimal l) (32 ∷ []), nonempty_signed l fits)

small_mag : (l : ℤ) → nat_abs l < 2 ^ 31 → mag l < 2 ^ 63
small_mag (pos n) fits = omega arith
small_mag (negsuc n) fits = omega arith

-- a line of numbers tells them
zero_ended_tells : (c d : List ℤ) → All IsLiteral c → All IsLiteral d → zero_ended c ≡ zero_ended d → c ≡ d
zero_ended_tells [] [] literals others same = refl
zero_ended_tells [] (m ∷ d) literals others same = absurd (not_only_zero m (zero_ended d) (All-head IsLiteral m d others).1 (same ∙ append_assoc (number_word m) (flat_map number_word d) (48 ∷ [])))
zero_ended_tells (l ∷ c) [] literals others same = absurd (not_only_zero l (zero_ended c) (All-head IsLiteral l c literals).1 (sym same ∙ append_assoc (number_word l) (flat_map number_word c) (48 ∷ [])))
zero_ended_tells (l ∷ c) (m ∷ d) literals others same =
    let here = All-head IsLiteral l c literals in
    let there = All-head IsLiteral m d others in
    let cut : (n : ℤ) (e : List ℤ) → zero_ended (n ∷ e) ≡ signed_decimal n ++ 32 ∷ zero_ended e = λ (n : ℤ) (e : List ℤ).
    append_assoc (number_word n) (flat_map number_word e) (48 ∷ []) ∙ append_assoc (signed_decimal n) (32 ∷ []) (zero_ended e) in
    let parts = same_parts 32 (signed_decimal l) (signed_decimal m) (zero_ended c) (zero_ended d) (Lacks-signed 32 l (omega arith) here.1) (Lacks-signed 32 m (omega arith) there.1)
    (sym (cut l c) ∙ same ∙ cut m d) in
    let first : l ≡ m = signed_decimal_injective l m (small_mag l here.1) (small_mag m there.1) parts.front in
    let rest : c ≡ d = zero_ended_tells c d (All-tail IsLiteral l c literals) (All-tail IsLiteral m d others) parts.rest in
    cc

-- no line of a cube has byte 10 in it
Lacks-cube_line : (c : List ℤ) → All IsLiteral c → Lacks 10 (cube_line c)
unfolding Lacks
Lacks-cube_line c literals = ((λ e. absurd (omega arith)), ((λ e. absurd (omega arith)), Lacks-zero_ended c literals))

-- the line `s ALL` is no line of a cube
not_last : (text : List ℕ) (c : List ℤ) (rest : List ℕ) → text ≡ ended (cube_line c) ++ rest → get_or text 0 0 ≡ 115 → ⊥
not_last text c rest same last = let first : get_or text 0 0 ≡ 118 = ap (λ (l : List ℕ). get_or l 0 0) same in omega arith

pub listing_tells : (cubes others : List (List ℤ)) → TellsTheCubes cubes others
listing_tells [] [] literals these same = refl
listing_tells [] (d ∷ others) literals these same = absurd (not_last (listing []) d (listing others) same refl)
listing_tells (c ∷ cubes) [] literals these same = absurd (not_last (listing []) c (listing cubes) (sym same) refl)
listing_tells (c ∷ cubes) (d ∷ others) literals these same =
    let here = All-head (All IsLiteral) c cubes literals in
    let there = All-head (All IsLiteral) d others these in
    let cut : (e : List ℤ) (es : List (List ℤ)) → listing (e ∷ es) ≡ cube_line e ++ 10 ∷ listing es = λ (e : List ℤ) (es : List (List ℤ)). append_assoc (cube_line e) (10 ∷ []) (listing es) in
    let parts = same_parts 10 (cube_line c) (cube_line d) (listing cubes) (listing others) (Lacks-cube_line c here) (Lacks-cube_line d there) (sym (cut c cubes) ∙ same ∙ cut d others) in
    let first : c ≡ d = zero_ended_tells c d here there (ap (λ (l : List ℕ). drop 2 l) parts.front) in
    let rest : cubes ≡ others = listing_tells cubes others (All-tail (All IsLiteral) c cubes literals) (All-tail (All IsLiteral) d others these) parts.rest in
    ap (λ (e : List ℤ). e ∷ cubes) first ∙ ap (λ (es : List (List ℤ)). d ∷ es) rest
