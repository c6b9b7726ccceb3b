-- A text read token by token, with what a reader does at a token and at the end of a line left
-- open. `eat` is what a token does to the reader's state, and `close` what the end of a line does
-- to it.
use Rattle.std.specs.Prelude.{ℕ, Bool, true, false, not, cond, List, [], fold}
use Rattle.dimacs_tokens.specs.Bytes.{is_newline, is_white}
use Rattle.dimacs_tokens.specs.Cuts.{cut_tokens, tokens, complete, rest_of}
use Rattle.dimacs_tokens.specs.Seen.{SeenView, seen_token, more_seen, is_nil, is_empty}

-- where a reader stands: the state by all that is closed, what is seen of the open token,
-- and whether the open line has bytes
pub record Reading (S : Type 0) : Type 0 where
  pub state : S
  pub token : SeenView
  pub in_line : Bool

abbrev pub reading_at : {S : Type 0} → S → SeenView → Bool → Reading S
reading_at s t b = record { state = s; token = t; in_line = b }

module _ {S : Type 0} (eat : S → SeenView → S) where
  -- the state after these tokens
  unfoldable pub eats : S → List (List ℕ) → S
  eats s ts = fold (λ u t. eat u (seen_token t)) s ts

  -- the state where the open token ends, if there is one
  abbrev pub token_ends : S → SeenView → S
  token_ends s t = cond (is_empty t) s (eat s t)

  -- the reader after some bytes of a line, from the state at the line's start
  abbrev pub within_line : S → List ℕ → Reading S
  within_line s rest =
      reading_at (eats s (cut_tokens rest).whole) (seen_token (cut_tokens rest).open_part)
      (not (is_nil rest))

module _ {S : Type 0} (eat : S → SeenView → S) (close : S → S) where
  -- the state after a line
  abbrev pub line_read : S → List ℕ → S
  line_read s line = close (eats eat s (tokens line))

  -- the state after these lines
  unfoldable pub lines_read : S → List (List ℕ) → S
  lines_read s ls = fold line_read s ls

  -- the reader after these bytes: its complete lines are read, and the closed tokens of the open
  -- line
  unfoldable pub reading_of : S → List ℕ → Reading S
  reading_of start bs = within_line eat (lines_read start (complete bs)) (rest_of bs)

  -- one more byte
  unfoldable pub read_byte : Reading S → ℕ → Reading S
  read_byte r b =
      cond (is_newline b)
      (reading_at (close (token_ends eat r.state r.token)) (seen_token []) false)
      (cond (is_white b)
      (reading_at (token_ends eat r.state r.token) (seen_token []) true)
      (reading_at r.state (more_seen r.token b) true))

  -- the state where the text ends
  unfoldable pub text_ends : Reading S → S
  text_ends r = cond r.in_line (close (token_ends eat r.state r.token)) r.state
