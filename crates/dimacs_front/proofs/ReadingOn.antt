-- What stays while a text goes on, and the reader behind its bytes.
use Rattle.std.proofs.Common.{◌≡◌, ℕ, ◌+◌, ◌-◌, ◌<◌, ◌≤◌, List, ◌++◌, length, take, fold, Some, Err, sym, ◌∙◌}
use Rattle.dimacs_tokens.specs.Reading.{read_byte, text_ends}
use Rattle.dimacs_front.specs.declared.refused.TextRefused.{TextRefused}
use Rattle.dimacs_front.specs.Limits.{most_bytes}
use Rattle.dimacs_front.specs.Whole.{reads, stops}
use Rattle.dimacs_front.specs.MachineText.{eat_token, close_line, answer, long_answer}
use Rattle.dimacs_front.proofs.Stopping as machine
use Rattle.dimacs_front.proofs.Stopping.{text_behind}
use Rattle.dimacs_front.proofs.TextTie.{reads_same, stops_same}

pub stops_behind : (bs : List ℕ) → (text_behind bs).state.stopped ≡ stops bs
stops_behind bs = machine.stops_behind bs ∙ sym (stops_same bs)

-- a text that begins with a refused text is refused in the same way
pub stops_stay : (x : TextRefused) (bs ps : List ℕ) → stops bs ≡ Some x →
    (text_behind (bs ++ ps)).state.stopped ≡ Some x
stops_stay x bs ps h = machine.stops_stay x bs ps (sym (stops_same bs) ∙ h)

-- a text that is not too long
pub reads-short : (bs : List ℕ) → length bs ≤ most_bytes →
    reads bs ≡ answer (text_ends eat_token close_line (text_behind bs))
reads-short bs h = reads_same bs ∙ machine.reads-short bs h

-- bytes behind a text that is too long change nothing
pub reads-longer : (bs ps : List ℕ) → most_bytes < length bs → reads (bs ++ ps) ≡ reads bs
reads-longer bs ps h = reads_same (bs ++ ps) ∙ machine.reads-longer bs ps h ∙ sym (reads_same bs)

-- behind a text that is not too long, so many bytes more are judged
pub reads-beyond : (bs ps : List ℕ) → length bs ≤ most_bytes → most_bytes < length bs + length ps →
    reads (bs ++ ps) ≡
    Err (long_answer (fold (read_byte eat_token close_line) (text_behind bs) (take (most_bytes - length bs) ps)).state)
reads-beyond bs ps h long = reads_same (bs ++ ps) ∙ machine.reads-beyond bs ps h long

-- a refusal of a complete line is the refusal of each text that goes on
pub reads-stopped : (x : TextRefused) (bs ps : List ℕ) → length bs ≤ most_bytes →
    stops bs ≡ Some x → reads (bs ++ ps) ≡ Err x
reads-stopped x bs ps h e =
    reads_same (bs ++ ps) ∙ machine.reads-stopped x bs ps h (sym (stops_same bs) ∙ e)
