-- The lines of a saved text have no byte 10, and are cut into the tokens that were written.
use Rattle.std.proofs.Common.{◌≡◌, ℕ, ◌<◌, ◌^◌, true, not, List, [], ◌∷◌, ◌++◌, map, flat_map, ℤ, pos, nat_abs, codes, refl, sym, ap, ◌∙◌, append-nil, append_assoc, arith, Some}
use Rattle.std.specs.Fmt.{decimal, signed_decimal}
use Rattle.std.specs.List.{All, list_all}
use Rattle.std.proofs.lemmas.Bool.{and_parts, and_from}
use Rattle.std.proofs.lemmas.Fmt.{decimal_digit}
use Rattle.std.proofs.lemmas.List.Concat.{flat_map-append}
use Rattle.std.proofs.lemmas.List.Folds.{flat_map-map, list_all-append}
use Rattle.std.proofs.lemmas.List.Elements.{All-head, All-tail}
use Rattle.dimacs_tokens.specs.Bytes.{is_newline, is_white}
use Rattle.dimacs_tokens.specs.Cuts.{tokens}
use Rattle.dimacs_tokens.specs.Numbers.{size_cap, token_value}
use Rattle.dimacs_tokens.specs.Laws.{is_token_byte, is_token}
use Rattle.dimacs_tokens.specs.Seen.{is_nil}
use Rattle.dimacs_tokens.specs.Texts.{is_line}
use Rattle.dimacs_tokens.proofs.TokenLaws.{joined_tokens}
use Rattle.dimacs_tokens.proofs.NumberLaws.{written_is_token, decimal_is_token, written_value}
use Rattle.checkpoint.specs.SavedText.{number_word, zero_ended}

-- a number that is read back
abbrev pub IsSmall : ℤ → Type 0
IsSmall l = nat_abs l < size_cap

abbrev gap : List ℕ
gap = codes " "

-- the tokens with a space behind each
abbrev spaced : List (List ℕ) → List ℕ
spaced ts = flat_map (λ t. t ++ gap) ts

numbers_are_tokens : (ls : List ℤ) → All IsSmall ls → list_all is_token (map signed_decimal ls) ≡ true
numbers_are_tokens [] h = refl
numbers_are_tokens (l ∷ ls) h =
    and_from (is_token (signed_decimal l)) _ (written_is_token l (All-head IsSmall l ls h))
    (numbers_are_tokens ls (All-tail IsSmall l ls h))

all_tokens : (ws : List (List ℕ)) (ls : List ℤ) → list_all is_token ws ≡ true → All IsSmall ls →
    list_all is_token (ws ++ map signed_decimal ls) ≡ true
all_tokens ws ls h small =
    list_all-append is_token ws (map signed_decimal ls)
    ∙ and_from (list_all is_token ws) _ h (numbers_are_tokens ls small)

-- words, numbers and a 0
abbrev pub listed : List (List ℕ) → List ℤ → List ℕ
listed ws ls = spaced ws ++ zero_ended ls

listed_is : (ws : List (List ℕ)) (ls : List ℤ) → listed ws ls ≡ spaced (ws ++ map signed_decimal ls) ++ codes "0"
listed_is ws ls =
    sym (append_assoc (spaced ws) (flat_map number_word ls) (codes "0"))
    ∙ ap (λ x. (spaced ws ++ x) ++ codes "0") (sym (flat_map-map (λ t. t ++ gap) signed_decimal ls))
    ∙ ap (λ x. x ++ codes "0") (sym (flat_map-append (λ t. t ++ gap) ws (map signed_decimal ls)))

zero_is_token : is_token (codes "0") ≡ true
unfolding is_white
zero_is_token = refl

gap_is_white : list_all is_white gap ≡ true
unfolding is_white
gap_is_white = refl

pub listed_tokens : (ws : List (List ℕ)) (ls : List ℤ) → list_all is_token ws ≡ true → All IsSmall ls →
    tokens (listed ws ls) ≡ ws ++ (map signed_decimal ls ++ codes "0" ∷ [])
listed_tokens ws ls h small =
    ap tokens (listed_is ws ls)
    ∙ joined_tokens (ws ++ map signed_decimal ls) (codes "0") gap (all_tokens ws ls h small) zero_is_token refl gap_is_white
    ∙ append_assoc ws (map signed_decimal ls) (codes "0" ∷ [])

-- the numbers of these tokens
pub zero_value : token_value (codes "0") ≡ Some (pos 0)
zero_value = sym (ap token_value (decimal_digit 0 (omega arith))) ∙ written_value (pos 0) (omega arith)

pub written_values : (ls : List ℤ) → All IsSmall ls →
    map token_value (map signed_decimal ls ++ codes "0" ∷ []) ≡ map (λ l. Some l) ls ++ Some (pos 0) ∷ []
written_values [] h = ap (λ o. o ∷ []) zero_value
written_values (l ∷ ls) h =
    (λ i. written_value l (All-head IsSmall l ls h) i ∷ written_values ls (All-tail IsSmall l ls h) i)

-- ---- no byte 10

token_line : (t : List ℕ) → list_all is_token_byte t ≡ true → is_line t ≡ true
token_line [] h = refl
token_line (b ∷ bs) h =
    let k = and_parts (is_token_byte b) (list_all is_token_byte bs) h in
    and_from (not (is_newline b)) (is_line bs) (and_parts (not (is_white b)) (not (is_newline b)) k.0).1 (token_line bs k.1)

-- a token and what follows
token_then : (t rest : List ℕ) → is_token t ≡ true → is_line rest ≡ true → is_line (t ++ rest) ≡ true
token_then t rest h e =
    list_all-append (λ b. not (is_newline b)) t rest
    ∙ and_from (is_line t) (is_line rest) (token_line t (and_parts (not (is_nil t)) (list_all is_token_byte t) h).1) e

spaced_line : (ts : List (List ℕ)) (rest : List ℕ) → list_all is_token ts ≡ true → is_line rest ≡ true →
    is_line (spaced ts ++ rest) ≡ true
spaced_line [] rest h e = e
spaced_line (t ∷ ts) rest h e =
    let k = and_parts (is_token t) (list_all is_token ts) h in
    ap is_line (append_assoc (t ++ gap) (spaced ts) rest ∙ append_assoc t gap (spaced ts ++ rest))
    ∙ token_then t (gap ++ (spaced ts ++ rest)) k.0 (spaced_line ts rest k.1 e)

pub listed_line : (ws : List (List ℕ)) (ls : List ℤ) → list_all is_token ws ≡ true → All IsSmall ls →
    is_line (listed ws ls) ≡ true
listed_line ws ls h small =
    ap is_line (listed_is ws ls) ∙ spaced_line (ws ++ map signed_decimal ls) (codes "0") (all_tokens ws ls h small) refl

-- ---- the line of the header

abbrev header_words : ℕ → List (List ℕ)
header_words v = codes "p" ∷ codes "cnf" ∷ decimal v ∷ []

header_is : (v m : ℕ) → codes "p cnf " ++ decimal v ++ codes " " ++ decimal m ≡ spaced (header_words v) ++ decimal m
header_is v m =
    ap (λ x. codes "p cnf " ++ (x ++ decimal m)) (sym (append-nil (decimal v ++ gap)))

header_tokens_are : (v : ℕ) → v < 2 ^ 64 → list_all is_token (header_words v) ≡ true
unfolding is_white
header_tokens_are v fits = and_from (is_token (decimal v)) true (decimal_is_token v fits) refl

pub header_tokens : (v m : ℕ) → v < 2 ^ 64 → m < 2 ^ 64 →
    tokens (codes "p cnf " ++ decimal v ++ codes " " ++ decimal m) ≡ codes "p" ∷ codes "cnf" ∷ decimal v ∷ decimal m ∷ []
header_tokens v m fits small =
    ap tokens (header_is v m)
    ∙ joined_tokens (header_words v) (decimal m) gap (header_tokens_are v fits) (decimal_is_token m small) refl gap_is_white

pub header_line : (v m : ℕ) → v < 2 ^ 64 → m < 2 ^ 64 →
    is_line (codes "p cnf " ++ decimal v ++ codes " " ++ decimal m) ≡ true
header_line v m fits small =
    ap is_line (header_is v m)
    ∙ spaced_line (header_words v) (decimal m) (header_tokens_are v fits)
    (ap is_line (sym (append-nil (decimal m))) ∙ token_then (decimal m) [] (decimal_is_token m small) refl)
