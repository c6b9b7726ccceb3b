-- Tokens have no white space and no byte 10, and together they are their line without its white space.
use Rattle.std.proofs.Common.{◌≡◌, ℕ, Bool, true, false, not, cond, List, [], ◌∷◌, ◌++◌, fold, sym, refl, ap, ◌∙◌, append-nil, append_assoc}
use Rattle.std.specs.Prelude.{flat_map, filter}
use Rattle.std.specs.List.{list_all}
use Rattle.std.proofs.lemmas.Bool.{cond-true, cond-false, not-true, not_from_false, and_parts, and_from}
use Rattle.std.proofs.lemmas.List.{flat_map_more}
use Rattle.std.proofs.lemmas.List.Sums.{fold-append}
use Rattle.dimacs_tokens.specs.Bytes.{is_newline, is_white}
use Rattle.dimacs_tokens.specs.Cuts.{Cut, with_part, token_byte, nothing_cut, cut_tokens, lines, tokens}
use Rattle.dimacs_tokens.specs.Seen.{is_nil}
use Rattle.dimacs_tokens.specs.Texts.{is_line}
use Rattle.dimacs_tokens.specs.Laws.{is_token_byte, is_token, OnlyTokensAreCut, NoByteIsLost, PartedTokensAreCut, JoinedTokensAreCut}
use Rattle.dimacs_tokens.proofs.LineLaws.{IsClean, list_all_push, lines_are_lines}

abbrev cut_at : List (List ℕ) → List ℕ → Cut
cut_at w p = record { whole = w; open_part = p }

abbrev CleanTokens : Cut → Type 0
CleanTokens c = IsClean is_token is_token_byte c

token_passes : (ws : List (List ℕ)) (part : List ℕ) → list_all is_token ws ≡ true → list_all is_token_byte part ≡ true → list_all is_token (with_part ws part) ≡ true
token_passes ws [] h e = h
token_passes ws (b ∷ bs) h e = list_all_push is_token ws (b ∷ bs) h e

clean_token_byte : (c : Cut) (b : ℕ) (k : Bool) → is_white b ≡ k → not (is_newline b) ≡ true → CleanTokens c → CleanTokens (cond k (cut_at (with_part c.whole c.open_part) []) (cut_at c.whole (c.open_part ++ b ∷ [])))
clean_token_byte c b true e n h =
    record { parts = token_passes c.whole c.open_part h.parts h.bytes; bytes = refl }
clean_token_byte c b false e n h = record {
  parts = h.parts;
  bytes = list_all_push is_token_byte c.open_part b h.bytes (and_from _ _ (not_from_false (is_white b) e) n);
}

clean_fold : (c : Cut) (line : List ℕ) → is_line line ≡ true → CleanTokens c → CleanTokens (fold token_byte c line)
clean_fold c [] l h = h
clean_fold c (b ∷ bs) l h =
    let k = and_parts (not (is_newline b)) (is_line bs) l in
    clean_fold (token_byte c b) bs k.1 (clean_token_byte c b (is_white b) refl k.0 h)

tokens_are_tokens : (line : List ℕ) → is_line line ≡ true → list_all is_token (tokens line) ≡ true
unfolding cut_tokens
tokens_are_tokens line l =
    let clean = clean_fold nothing_cut line l (record { parts = refl; bytes = refl }) in
    token_passes (cut_tokens line).whole (cut_tokens line).open_part clean.parts clean.bytes

each_passes : {X : Type 0} (p q : X → Bool) → ((x : X) → p x ≡ true → q x ≡ true) → (xs : List X) → list_all p xs ≡ true → list_all q xs ≡ true
each_passes p q f [] h = refl
each_passes p q f (x ∷ xs) h =
    let k = and_parts (p x) (list_all p xs) h in and_from _ _ (f x k.0) (each_passes p q f xs k.1)

pub only_tokens : OnlyTokensAreCut
only_tokens bs =
    each_passes is_line (λ line. list_all is_token (tokens line)) tokens_are_tokens (lines bs) (lines_are_lines bs)

-- the parts joined
abbrev joined : List (List ℕ) → List ℕ
joined parts = flat_map (λ t. t) parts

joined-with_part : (ws : List (List ℕ)) (part : List ℕ) → joined (with_part ws part) ≡ joined ws ++ part
joined-with_part ws [] = sym (append-nil (joined ws))
joined-with_part ws (b ∷ bs) = sym (flat_map_more (λ t. t) [] ws (b ∷ bs))

token_byte_keeps : (c : Cut) (b : ℕ) (fs : List ℕ) (k : Bool) → (joined (cond k (cut_at (with_part c.whole c.open_part) []) (cut_at c.whole (c.open_part ++ b ∷ []))).whole ++ (cond k (cut_at (with_part c.whole c.open_part) []) (cut_at c.whole (c.open_part ++ b ∷ []))).open_part) ++ fs ≡ (joined c.whole ++ c.open_part) ++ cond (not k) (b ∷ fs) fs
token_byte_keeps c b fs true =
    ap (λ x. x ++ fs) (append-nil (joined (with_part c.whole c.open_part)) ∙ joined-with_part c.whole c.open_part)
token_byte_keeps c b fs false =
    ap (λ x. x ++ fs) (sym (append_assoc (joined c.whole) c.open_part (b ∷ [])))
    ∙ append_assoc (joined c.whole ++ c.open_part) (b ∷ []) fs

fold_keeps : (c : Cut) (line : List ℕ) → joined (with_part (fold token_byte c line).whole (fold token_byte c line).open_part) ≡ (joined c.whole ++ c.open_part) ++ filter (λ b. not (is_white b)) line
fold_keeps c [] =
    joined-with_part c.whole c.open_part ∙ sym (append-nil (joined c.whole ++ c.open_part))
fold_keeps c (b ∷ bs) =
    fold_keeps (token_byte c b) bs
    ∙ token_byte_keeps c b (filter (λ b. not (is_white b)) bs) (is_white b)

pub no_byte_lost : NoByteIsLost
unfolding cut_tokens
no_byte_lost line = fold_keeps nothing_cut line

-- the bytes of a token join the open part, and white space behind it ends it
fold-plain : (w : List (List ℕ)) (p bs : List ℕ) → list_all is_token_byte bs ≡ true → fold token_byte (cut_at w p) bs ≡ cut_at w (p ++ bs)
fold-plain w p [] h = ap (cut_at w) (sym (append-nil p))
fold-plain w p (b ∷ bs) h =
    let k = and_parts (is_token_byte b) (list_all is_token_byte bs) h in
    let dark = not-true (is_white b) (and_parts (not (is_white b)) (not (is_newline b)) k.0).0 in
    ap (λ c. fold token_byte c bs) (cond-false (is_white b) (cut_at (with_part w p) []) (cut_at w (p ++ b ∷ [])) dark)
    ∙ fold-plain w (p ++ b ∷ []) bs k.1
    ∙ ap (cut_at w) (append_assoc p (b ∷ []) bs)

fold-white : (w : List (List ℕ)) (gap : List ℕ) → list_all is_white gap ≡ true → fold token_byte (cut_at w []) gap ≡ cut_at w []
fold-white w [] h = refl
fold-white w (b ∷ bs) h =
    let k = and_parts (is_white b) (list_all is_white bs) h in
    ap (λ c. fold token_byte c bs) (cond-true (is_white b) (cut_at w []) (cut_at w (b ∷ [])) k.0) ∙ fold-white w bs k.1

fold-gap : (w : List (List ℕ)) (p gap : List ℕ) → is_nil gap ≡ false → list_all is_white gap ≡ true → fold token_byte (cut_at w p) gap ≡ cut_at (with_part w p) []
fold-gap w p [] some h = absurd (cc)
fold-gap w p (b ∷ bs) some h =
    let k = and_parts (is_white b) (list_all is_white bs) h in
    ap (λ c. fold token_byte c bs) (cond-true (is_white b) (cut_at (with_part w p) []) (cut_at w (p ++ b ∷ [])) k.0)
    ∙ fold-white (with_part w p) bs k.1

with_token : (w : List (List ℕ)) (t : List ℕ) → is_token t ≡ true → with_part w t ≡ w ++ t ∷ []
with_token w [] h = absurd (cc)
with_token w (b ∷ bs) h = refl

fold-tokens : (w ts : List (List ℕ)) (gap : List ℕ) → list_all is_token ts ≡ true → is_nil gap ≡ false → list_all is_white gap ≡ true → fold token_byte (cut_at w []) (flat_map (λ t. t ++ gap) ts) ≡ cut_at (w ++ ts) []
fold-tokens w [] gap h some g = ap (λ v. cut_at v []) (sym (append-nil w))
fold-tokens w (t ∷ ts) gap h some g =
    let k = and_parts (is_token t) (list_all is_token ts) h in
    let plain = (and_parts (not (is_nil t)) (list_all is_token_byte t) k.0).1 in
    fold-append token_byte (cut_at w []) (t ++ gap) (flat_map (λ u. u ++ gap) ts)
    ∙ ap (λ c. fold token_byte c (flat_map (λ u. u ++ gap) ts)) (fold-append token_byte (cut_at w []) t gap ∙ ap (λ c. fold token_byte c gap) (fold-plain w [] t plain) ∙ fold-gap w t gap some g ∙ ap (λ v. cut_at v []) (with_token w t k.0))
    ∙ fold-tokens (w ++ t ∷ []) ts gap k.1 some g
    ∙ ap (λ v. cut_at v []) (append_assoc w (t ∷ []) ts)

pub parted_tokens : PartedTokensAreCut
unfolding cut_tokens
parted_tokens ts gap h some g =
    ap (λ c. with_part c.whole c.open_part) (fold-tokens [] ts gap h some g)

pub joined_tokens : JoinedTokensAreCut
unfolding cut_tokens
joined_tokens ts last gap h e some g =
    let plain = (and_parts (not (is_nil last)) (list_all is_token_byte last) e).1 in
    ap (λ c. with_part c.whole c.open_part)
    (fold-append token_byte nothing_cut (flat_map (λ t. t ++ gap) ts) last
    ∙ ap (λ c. fold token_byte c last) (fold-tokens [] ts gap h some g)
    ∙ fold-plain ts [] last plain)
    ∙ with_token ts last e
