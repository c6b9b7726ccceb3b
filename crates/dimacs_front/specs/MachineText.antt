-- What the reader's machine makes of a whole text: its answer, and the refusal of the lowest
-- refused line among those that byte 10 ends.
use Rattle.std.specs.Prelude.{ℕ, ◌+◌, cond, nat_le, List, length, take, Option, Some, None, Result, Err}
use Rattle.dimacs_tokens.specs.Cuts.{lines, complete}
use Rattle.dimacs_tokens.specs.Seen.{SeenView}
use Rattle.dimacs_tokens.specs.Reading.{lines_read}
use Rattle.dimacs_front.specs.declared.refused.TextRefused.{TextRefused}
use Rattle.dimacs_front.specs.declared.refused.TextRefused.TheVariants.{TextTooLong}
use Rattle.dimacs_front.specs.declared.input.Input.{Input}
use Rattle.dimacs_front.specs.Limits.{most_bytes}
use Rattle.dimacs_front.specs.Whole.{last_line}
use Rattle.dimacs_front.specs.MachinePlaces.{refusal_at}
use Rattle.dimacs_front.specs.Machine.{StateView, nothing_said_yet, eaten, closed}
use Rattle.dimacs_front.specs.MachineEnd.{end_of}

-- how many lines were read, what they say, and the refusal of the lowest line that is refused
pub record TextView : Type 0 where
  pub lines : ℕ
  pub state : StateView
  pub stopped : Option TextRefused

abbrev pub text_at : ℕ → StateView → Option TextRefused → TextView
text_at n s o = record { lines = n; state = s; stopped = o }

abbrev pub text_at_start : TextView
text_at_start = text_at 0 nothing_said_yet None

-- the first of the two that is there
abbrev pub first_of : Option TextRefused → Option TextRefused → Option TextRefused
first_of (Some r) o = Some r
first_of None o = o

-- what a token does, and what the end of a line does
abbrev pub eat_token : TextView → SeenView → TextView
eat_token j t = text_at j.lines (eaten (j.lines + 1) j.state t) j.stopped

abbrev pub below_line : ℕ → StateView → Option TextRefused → TextView
below_line n s o = text_at n s (first_of o (refusal_at s.place))

abbrev pub close_line : TextView → TextView
close_line j = below_line (j.lines + 1) (closed (j.lines + 1) j.state) j.stopped

-- the text after these lines, each read token by token
abbrev pub text_after : List (List ℕ) → TextView
text_after ls = lines_read eat_token close_line text_at_start ls

-- the lowest refused line counts, and the end only where no line is refused
abbrev pub answer_by : Option TextRefused → ℕ → StateView → Result Input TextRefused
answer_by (Some r) n s = Err r
answer_by None n s = end_of (last_line n) s

abbrev pub answer : TextView → Result Input TextRefused
answer j = answer_by j.stopped j.lines j.state

-- a text that is too long: its complete lines within the limit are judged first
abbrev pub long_by : Option TextRefused → ℕ → TextRefused
long_by (Some r) n = r
long_by None n = TextTooLong (n + 1)

abbrev pub long_answer : TextView → TextRefused
long_answer j = long_by j.stopped j.lines

-- what a text says, within m bytes
abbrev pub machine_reads_within : ℕ → List ℕ → Result Input TextRefused
machine_reads_within m bs =
    cond (nat_le (length bs) m)
    (answer (text_after (lines bs)))
    (Err (long_answer (text_after (complete (take m bs)))))

unfoldable pub machine_reads : List ℕ → Result Input TextRefused
machine_reads bs = machine_reads_within most_bytes bs

-- the refusal of the lowest refused line among the lines that byte 10 ends
unfoldable pub machine_stops : List ℕ → Option TextRefused
machine_stops bs = (text_after (complete bs)).stopped
