-- The lines of a text that ends its lines, and that lines hold no byte 10.
use Rattle.std.proofs.Common.{◌≡◌, ℕ, Bool, true, false, not, cond, List, [], ◌∷◌, ◌++◌, fold, sym, refl, ap, ◌∙◌, append-nil, append_assoc}
use Rattle.std.specs.List.{list_all}
use Rattle.std.proofs.lemmas.Bool.{cond-false, not-true, not_from_false, and_parts, and_from}
use Rattle.std.proofs.lemmas.List.Sums.{fold-append}
use Rattle.dimacs_tokens.specs.Bytes.{is_newline}
use Rattle.dimacs_tokens.specs.Cuts.{Cut, with_part, line_byte, nothing_cut, cut_lines, lines}
use Rattle.dimacs_tokens.specs.Seen.{is_nil}
use Rattle.dimacs_tokens.specs.Texts.{is_line, ended, text_of}
use Rattle.dimacs_tokens.specs.Laws.{EndedLinesAreLines, ALastLineNeedsNoEnd}

abbrev cut_at : List (List ℕ) → List ℕ → Cut
cut_at w p = record { whole = w; open_part = p }

-- bytes that end no line join the open line
fold-line : (w : List (List ℕ)) (p line : List ℕ) → is_line line ≡ true → fold line_byte (cut_at w p) line ≡ cut_at w (p ++ line)
fold-line w p [] h = ap (cut_at w) (sym (append-nil p))
fold-line w p (b ∷ bs) h =
    let k = and_parts (not (is_newline b)) (is_line bs) h in
    ap (λ c. fold line_byte c bs) (cond-false (is_newline b) (cut_at (w ++ p ∷ []) []) (cut_at w (p ++ b ∷ [])) (not-true (is_newline b) k.0))
    ∙ fold-line w (p ++ b ∷ []) bs k.1
    ∙ ap (cut_at w) (append_assoc p (b ∷ []) bs)

fold-text : (w ls : List (List ℕ)) → list_all is_line ls ≡ true → fold line_byte (cut_at w []) (text_of ls) ≡ cut_at (w ++ ls) []
fold-text w [] h = ap (λ v. cut_at v []) (sym (append-nil w))
fold-text w (l ∷ ls) h =
    let k = and_parts (is_line l) (list_all is_line ls) h in
    fold-append line_byte (cut_at w []) (ended l) (text_of ls)
    ∙ ap (λ c. fold line_byte c (text_of ls)) (fold-append line_byte (cut_at w []) l (10 ∷ []) ∙ ap (λ c. line_byte c 10) (fold-line w [] l k.0))
    ∙ fold-text (w ++ l ∷ []) ls k.1
    ∙ ap (λ v. cut_at v []) (append_assoc w (l ∷ []) ls)

pub lines-text_of : EndedLinesAreLines
unfolding cut_lines
lines-text_of ls h = ap (λ c. with_part c.whole c.open_part) (fold-text [] ls h)

with_some : (ws : List (List ℕ)) (p : List ℕ) → is_nil p ≡ false → with_part ws p ≡ ws ++ p ∷ []
with_some ws [] h = absurd (cc)
with_some ws (b ∷ bs) h = refl

pub last_line-open : ALastLineNeedsNoEnd
unfolding cut_lines
last_line-open ls line h l some =
    ap (λ c. with_part c.whole c.open_part)
    (fold-append line_byte nothing_cut (text_of ls) line
    ∙ ap (λ c. fold line_byte c line) (fold-text [] ls h)
    ∙ fold-line ls [] line l)
    ∙ with_some ls line some

-- a test of each element, with one more
pub list_all_push : {X : Type 0} (p : X → Bool) (xs : List X) (x : X) → list_all p xs ≡ true → p x ≡ true → list_all p (xs ++ x ∷ []) ≡ true
list_all_push p [] x h e = and_from _ _ e refl
list_all_push p (y ∷ ys) x h e =
    let k = and_parts (p y) (list_all p ys) h in and_from _ _ k.0 (list_all_push p ys x k.1 e)

-- each whole part passes one test, and each byte of the open part another
pub record IsClean (p : List ℕ → Bool) (q : ℕ → Bool) (c : Cut) : Type 0 where
  pub parts : list_all p c.whole ≡ true
  pub bytes : list_all q c.open_part ≡ true

abbrev CleanLines : Cut → Type 0
CleanLines c = IsClean is_line (λ b. not (is_newline b)) c

clean_line_byte : (c : Cut) (b : ℕ) (m : Bool) → is_newline b ≡ m → CleanLines c → CleanLines (cond m (cut_at (c.whole ++ c.open_part ∷ []) []) (cut_at c.whole (c.open_part ++ b ∷ [])))
clean_line_byte c b true e h =
    record { parts = list_all_push is_line c.whole c.open_part h.parts h.bytes; bytes = refl }
clean_line_byte c b false e h = record {
  parts = h.parts;
  bytes = list_all_push (λ x. not (is_newline x)) c.open_part b h.bytes (not_from_false (is_newline b) e);
}

clean_fold : (c : Cut) (bs : List ℕ) → CleanLines c → CleanLines (fold line_byte c bs)
clean_fold c [] h = h
clean_fold c (b ∷ bs) h = clean_fold (line_byte c b) bs (clean_line_byte c b (is_newline b) refl h)

part_passes : (p : List ℕ → Bool) (ws : List (List ℕ)) (part : List ℕ) → list_all p ws ≡ true → p part ≡ true → list_all p (with_part ws part) ≡ true
part_passes p ws [] h e = h
part_passes p ws (b ∷ bs) h e = list_all_push p ws (b ∷ bs) h e

pub lines_are_lines : (bs : List ℕ) → list_all is_line (lines bs) ≡ true
unfolding cut_lines
lines_are_lines bs =
    let clean = clean_fold nothing_cut bs (record { parts = refl; bytes = refl }) in
    part_passes is_line (cut_lines bs).whole (cut_lines bs).open_part clean.parts clean.bytes
