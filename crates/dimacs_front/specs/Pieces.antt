-- What one piece and the end of the text do to the reader.
use Rattle.std.specs.Prelude.{◌≡◌, ℕ, ◌+◌, ◌-◌, ◌<◌, ◌≤◌, ◌⊎◌, List, length, take, fold, Some, None, Result, Ok, Err}
use Rattle.dimacs_tokens.specs.Reading.{Reading, read_byte}
use Rattle.dimacs_front.specs.declared.refused.TextRefused.{TextRefused}
use Rattle.dimacs_front.specs.declared.refused.ReadRefused.{ReadRefused}
use Rattle.dimacs_front.specs.declared.refused.ReadRefused.TheVariants.{Text, ReadFault, OutOfMemory}
use Rattle.dimacs_front.specs.declared.input.Input.{Input}
use Rattle.dimacs_front.specs.Limits.{most_bytes}
use Rattle.dimacs_front.specs.MachineText.{TextView, eat_token, close_line, long_answer}

-- the answer, unless there was no memory
abbrev pub Answered : Result Input TextRefused → Result Input ReadRefused → Type 0
Answered o (Ok input) = o ≡ Ok input
Answered o (Err (Text r)) = o ≡ Err r
Answered o (Err (ReadFault line)) = ⊥
Answered o (Err (OutOfMemory e)) = Unit {0}

-- the reader behind some more bytes
abbrev pub behind : Reading TextView → List ℕ → Reading TextView
behind old piece = fold (read_byte eat_token close_line) old piece

-- the piece is fed, n bytes are within the limit, and no complete line is refused
pub record IsFedOn (old : Reading TextView) (count : ℕ) (piece : List ℕ)
    (new : Reading TextView) (n : ℕ) : Type 0 where
  pub steps : new ≡ behind old piece
  pub counted : n ≡ count + length piece
  pub within : n ≤ most_bytes
  pub lines : new.state.lines ≤ n
  pub going : new.state.stopped ≡ None

-- the piece ends within the limit, and a complete line is refused
pub record IsStopped (old : Reading TextView) (count : ℕ) (piece : List ℕ) (r : TextRefused) :
    Type 0 where
  pub within : count + length piece ≤ most_bytes
  pub stopped : (behind old piece).state.stopped ≡ Some r

-- the piece goes beyond the limit
pub record IsBeyond (old : Reading TextView) (count : ℕ) (piece : List ℕ) (r : TextRefused) :
    Type 0 where
  pub beyond : most_bytes < count + length piece
  pub judged : long_answer (behind old (take (most_bytes - count) piece)).state ≡ r

abbrev pub FeedsOn : Reading TextView → ℕ → List ℕ → Reading TextView →
    Result ℕ ReadRefused → Type 0
FeedsOn old count piece new (Ok n) = IsFedOn old count piece new n
FeedsOn old count piece new (Err (Text r)) =
    IsStopped old count piece r ⊎ IsBeyond old count piece r
FeedsOn old count piece new (Err (ReadFault line)) = ⊥
FeedsOn old count piece new (Err (OutOfMemory e)) = Unit {0}
