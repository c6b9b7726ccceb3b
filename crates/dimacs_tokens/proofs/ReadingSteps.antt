-- A reader after one more byte, after more bytes, and at the end of the text.
use Rattle.std.proofs.Common.{◌≡◌, ℕ, Bool, true, false, not, cond, List, [], ◌∷◌, ◌++◌, fold, sym, refl, ap, ◌∙◌, append-nil, append_assoc}
use Rattle.std.proofs.lemmas.List.Sums.{fold-append}
use Rattle.dimacs_tokens.specs.Bytes.{is_newline, is_white}
use Rattle.dimacs_tokens.specs.Cuts.{Cut, with_part, line_byte, token_byte, nothing_cut, cut_lines, cut_tokens, lines}
use Rattle.dimacs_tokens.specs.Seen.{SeenView, seen_token, more_seen, is_nil}
use Rattle.dimacs_tokens.specs.Reading.{Reading, reading_at, eats, token_ends, within_line, line_read, lines_read, reading_of, read_byte, text_ends}
use Rattle.dimacs_tokens.proofs.SeenSteps.{seen_push}

cut_lines_push : (bs : List ℕ) (b : ℕ) → cut_lines (bs ++ b ∷ []) ≡ line_byte (cut_lines bs) b
unfolding cut_lines
cut_lines_push bs b = fold-append line_byte nothing_cut bs (b ∷ [])

cut_tokens_push : (bs : List ℕ) (b : ℕ) → cut_tokens (bs ++ b ∷ []) ≡ token_byte (cut_tokens bs) b
unfolding cut_tokens
cut_tokens_push bs b = fold-append token_byte nothing_cut bs (b ∷ [])

some_push : (bs : List ℕ) (b : ℕ) → not (is_nil (bs ++ b ∷ [])) ≡ true
some_push [] b = refl
some_push (c ∷ cs) b = refl

module _ {S : Type 0} (eat : S → SeenView → S) where
  -- the open token is eaten where it ends
  eats-with_part : (s : S) (ts : List (List ℕ)) (t : List ℕ) → eats eat s (with_part ts t) ≡ token_ends eat (eats eat s ts) (seen_token t)
  unfolding eats seen_token
  eats-with_part s ts [] = refl
  eats-with_part s ts (b ∷ bs) = fold-append (λ u t. eat u (seen_token t)) s ts ((b ∷ bs) ∷ [])

  -- the reader in a line, by its tokens
  abbrev at_tokens : S → Cut → Bool → Reading S
  at_tokens s c m = reading_at (eats eat s c.whole) (seen_token c.open_part) m

  -- one more byte that ends no line, white or not
  abbrev in_line_push : S → Cut → ℕ → Bool → Reading S
  in_line_push s c b k =
      cond k
      (reading_at (token_ends eat (eats eat s c.whole) (seen_token c.open_part)) (seen_token []) true)
      (reading_at (eats eat s c.whole) (more_seen (seen_token c.open_part) b) true)

  at_tokens_push : (s : S) (c : Cut) (b : ℕ) (k : Bool) → at_tokens s (cond k (record { whole = with_part c.whole c.open_part; open_part = [] }) (record { whole = c.whole; open_part = c.open_part ++ b ∷ [] })) true ≡ in_line_push s c b k
  at_tokens_push s c b true = ap (λ u. reading_at u (seen_token []) true) (eats-with_part s c.whole c.open_part)
  at_tokens_push s c b false = ap (λ t. reading_at (eats eat s c.whole) t true) (seen_push c.open_part b)

  within_line_push : (s : S) (rest : List ℕ) (b : ℕ) → within_line eat s (rest ++ b ∷ []) ≡ in_line_push s (cut_tokens rest) b (is_white b)
  within_line_push s rest b =
      ap (λ c. at_tokens s c (not (is_nil (rest ++ b ∷ [])))) (cut_tokens_push rest b)
      ∙ ap (λ m. at_tokens s (token_byte (cut_tokens rest) b) m) (some_push rest b)
      ∙ at_tokens_push s (cut_tokens rest) b (is_white b)

module _ {S : Type 0} (eat : S → SeenView → S) (close : S → S) (start : S) where
  -- the reader, by the lines of its text
  abbrev at_lines : Cut → Reading S
  at_lines c = within_line eat (lines_read eat close start c.whole) c.open_part

  lines_read_push : (ls : List (List ℕ)) (line : List ℕ) → lines_read eat close start (ls ++ line ∷ []) ≡ close (token_ends eat (eats eat (lines_read eat close start ls) (cut_tokens line).whole) (seen_token (cut_tokens line).open_part))
  unfolding lines_read
  lines_read_push ls line =
      fold-append (line_read eat close) start ls (line ∷ [])
      ∙ ap close (eats-with_part eat _ (cut_tokens line).whole (cut_tokens line).open_part)

  at_lines_push : (c : Cut) (b : ℕ) (m : Bool) → at_lines (cond m (record { whole = c.whole ++ c.open_part ∷ []; open_part = [] }) (record { whole = c.whole; open_part = c.open_part ++ b ∷ [] })) ≡ cond m (reading_at (close (token_ends eat (at_lines c).state (at_lines c).token)) (seen_token []) false) (in_line_push eat (lines_read eat close start c.whole) (cut_tokens c.open_part) b (is_white b))
  unfolding cut_tokens eats
  at_lines_push c b true = ap (λ u. reading_at u (seen_token []) false) (lines_read_push c.whole c.open_part)
  at_lines_push c b false = within_line_push eat (lines_read eat close start c.whole) c.open_part b

  -- one more byte is one step of the reader
  pub reading_push : (bs : List ℕ) (b : ℕ) → reading_of eat close start (bs ++ b ∷ []) ≡ read_byte eat close (reading_of eat close start bs) b
  unfolding reading_of read_byte
  reading_push bs b = ap at_lines (cut_lines_push bs b) ∙ at_lines_push (cut_lines bs) b (is_newline b)

  -- more bytes are as many steps
  pub reading_append : (bs ps : List ℕ) → reading_of eat close start (bs ++ ps) ≡ fold (read_byte eat close) (reading_of eat close start bs) ps
  reading_append bs [] = ap (reading_of eat close start) (append-nil bs)
  reading_append bs (p ∷ ps) =
      ap (reading_of eat close start) (sym (append_assoc bs (p ∷ []) ps))
      ∙ reading_append (bs ++ p ∷ []) ps
      ∙ ap (λ r. fold (read_byte eat close) r ps) (reading_push bs p)

  lines_end : (ls : List (List ℕ)) (rest : List ℕ) → lines_read eat close start (with_part ls rest) ≡ text_ends eat close (within_line eat (lines_read eat close start ls) rest)
  unfolding text_ends cut_tokens eats
  lines_end ls [] = refl
  lines_end ls (b ∷ bs) = lines_read_push ls (b ∷ bs)

  -- at the end all lines of the text are read
  pub reading_ends : (bs : List ℕ) → lines_read eat close start (lines bs) ≡ text_ends eat close (reading_of eat close start bs)
  unfolding reading_of
  reading_ends bs = lines_end (cut_lines bs).whole (cut_lines bs).open_part
