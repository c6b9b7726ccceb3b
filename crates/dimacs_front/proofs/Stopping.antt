-- What stays while a text goes on: the number of its lines, and the refusal of its lowest refused line.
use Rattle.std.proofs.Common.{◌≡◌, ℕ, zero, suc, ◌+◌, ◌-◌, ◌<◌, ◌≤◌, Bool, true, false, cond, List, [], ◌∷◌, ◌++◌, length, take, fold, Some, Err, refl, sym, ap, ◌∙◌, inl, inr, zero-add, length-append, arith}
use Rattle.std.proofs.lemmas.Bool.{cond-true, cond-false, le-leb, lt-leb, cases_lt}
use Rattle.std.proofs.lemmas.List.{take-append-le}
use Rattle.std.proofs.lemmas.List.Sums.{fold-append}
use Rattle.dimacs_tokens.specs.Bytes.{is_newline, is_white}
use Rattle.dimacs_tokens.specs.Cuts.{cut_tokens, complete, rest_of, tokens}
use Rattle.dimacs_tokens.specs.Seen.{SeenView, seen_token, more_seen, is_empty}
use Rattle.dimacs_tokens.specs.Reading.{Reading, reading_at, eats, line_read, lines_read, reading_of, read_byte, token_ends, text_ends}
use Rattle.dimacs_tokens.proofs.ReadingSteps.{reading_append, reading_ends}
use Rattle.dimacs_front.specs.declared.refused.TextRefused.{TextRefused}
use Rattle.dimacs_front.specs.Limits.{most_bytes}
use Rattle.dimacs_front.specs.MachinePlaces.{refusal_at}
use Rattle.dimacs_front.specs.Machine.{closed}
use Rattle.dimacs_front.specs.MachineText.{TextView, text_at_start, first_of, eat_token, close_line, text_after, answer_by, answer, long_by, long_answer, machine_reads, machine_stops}

-- the reader behind these bytes of a text
abbrev pub text_behind : List ℕ → Reading TextView
text_behind bs = reading_of eat_token close_line text_at_start bs

lines_kept : (j : TextView) (ts : List (List ℕ)) → (eats eat_token j ts).lines ≡ j.lines
unfolding eats
lines_kept j [] = refl
lines_kept j (t ∷ ts) = lines_kept (eat_token j (seen_token t)) ts

stop_kept : (j : TextView) (ts : List (List ℕ)) → (eats eat_token j ts).stopped ≡ j.stopped
unfolding eats
stop_kept j [] = refl
stop_kept j (t ∷ ts) = stop_kept (eat_token j (seen_token t)) ts

lines_counted : (j : TextView) (ls : List (List ℕ)) →
    (lines_read eat_token close_line j ls).lines ≡ j.lines + length ls
unfolding lines_read
lines_counted j [] = omega arith
lines_counted j (l ∷ ls) =
    let k = lines_counted (line_read eat_token close_line j l) ls in
    let e = lines_kept j (tokens l) in
    omega arith

lines_at : (bs : List ℕ) → (text_behind bs).state.lines ≡ (text_after (complete bs)).lines
unfolding reading_of
lines_at bs = lines_kept (text_after (complete bs)) (cut_tokens (rest_of bs)).whole

stop_at : (bs : List ℕ) → (text_behind bs).state.stopped ≡ (text_after (complete bs)).stopped
unfolding reading_of
stop_at bs = stop_kept (text_after (complete bs)) (cut_tokens (rest_of bs)).whole

-- the complete lines, counted
pub lines_behind : (bs : List ℕ) → (text_behind bs).state.lines ≡ length (complete bs)
lines_behind bs =
    lines_at bs ∙ lines_counted text_at_start (complete bs) ∙ zero-add (length (complete bs))

pub stops_behind : (bs : List ℕ) → (text_behind bs).state.stopped ≡ machine_stops bs
unfolding machine_stops
stops_behind bs = stop_at bs

-- a refusal stays
token_end_keeps : (x : TextRefused) (j : TextView) (t : SeenView) (b : Bool) → j.stopped ≡ Some x →
    (cond b j (eat_token j t)).stopped ≡ Some x
token_end_keeps x j t true h = h
token_end_keeps x j t false h = h

token_keeps : (x : TextRefused) (j : TextView) (t : SeenView) → j.stopped ≡ Some x →
    (token_ends eat_token j t).stopped ≡ Some x
token_keeps x j t h = token_end_keeps x j t (is_empty t) h

close_keeps : (x : TextRefused) (j : TextView) → j.stopped ≡ Some x →
    (close_line j).stopped ≡ Some x
close_keeps x j h = ap (λ o. first_of o (refusal_at (closed (j.lines + 1) j.state).place)) h

byte_keeps-at : (x : TextRefused) (r : Reading TextView) (b : ℕ) (m k : Bool) →
    r.state.stopped ≡ Some x →
    (cond m (reading_at (close_line (token_ends eat_token r.state r.token)) (seen_token []) false) (cond k (reading_at (token_ends eat_token r.state r.token) (seen_token []) true) (reading_at r.state (more_seen r.token b) true))).state.stopped ≡
    Some x
byte_keeps-at x r b true k h = close_keeps x (token_ends eat_token r.state r.token) (token_keeps x r.state r.token h)
byte_keeps-at x r b false true h = token_keeps x r.state r.token h
byte_keeps-at x r b false false h = h

byte_keeps : (x : TextRefused) (r : Reading TextView) (b : ℕ) → r.state.stopped ≡ Some x →
    (read_byte eat_token close_line r b).state.stopped ≡ Some x
unfolding read_byte
byte_keeps x r b h = byte_keeps-at x r b (is_newline b) (is_white b) h

bytes_keep : (x : TextRefused) (r : Reading TextView) (ps : List ℕ) → r.state.stopped ≡ Some x →
    (fold (read_byte eat_token close_line) r ps).state.stopped ≡ Some x
bytes_keep x r [] h = h
bytes_keep x r (p ∷ ps) h = bytes_keep x (read_byte eat_token close_line r p) ps (byte_keeps x r p h)

end_keeps-at : (x : TextRefused) (r : Reading TextView) (b : Bool) → r.state.stopped ≡ Some x →
    (cond b (close_line (token_ends eat_token r.state r.token)) r.state).stopped ≡ Some x
end_keeps-at x r true h = close_keeps x (token_ends eat_token r.state r.token) (token_keeps x r.state r.token h)
end_keeps-at x r false h = h

end_keeps : (x : TextRefused) (r : Reading TextView) → r.state.stopped ≡ Some x →
    (text_ends eat_token close_line r).stopped ≡ Some x
unfolding text_ends
end_keeps x r h = end_keeps-at x r r.in_line h

-- a text that begins with a refused text is refused in the same way
pub stops_stay : (x : TextRefused) (bs ps : List ℕ) → machine_stops bs ≡ Some x →
    (text_behind (bs ++ ps)).state.stopped ≡ Some x
stops_stay x bs ps h =
    ap (λ (r : Reading TextView). r.state.stopped) (reading_append eat_token close_line text_at_start bs ps)
    ∙ bytes_keep x (text_behind bs) ps (stops_behind bs ∙ h)

-- what a text says that is not too long
pub reads-short : (bs : List ℕ) → length bs ≤ most_bytes →
    machine_reads bs ≡ answer (text_ends eat_token close_line (text_behind bs))
unfolding machine_reads
reads-short bs h =
    cond-true _ _ _ (le-leb (length bs) most_bytes h)
    ∙ ap answer (reading_ends eat_token close_line text_at_start bs)

long_at : (bs : List ℕ) →
    long_answer (text_after (complete bs)) ≡ long_answer (text_behind bs).state
long_at bs = λ i. long_by (sym (stop_at bs) i) (sym (lines_at bs) i)

-- and what one says that is
pub reads-long : (bs : List ℕ) → most_bytes < length bs →
    machine_reads bs ≡ Err (long_answer (text_behind (take most_bytes bs)).state)
unfolding machine_reads
reads-long bs h =
    cond-false _ _ _ (lt-leb (length bs) most_bytes h)
    ∙ ap Err (long_at (take most_bytes bs))

-- bytes behind a text that is too long change nothing
pub reads-longer : (bs ps : List ℕ) → most_bytes < length bs → machine_reads (bs ++ ps) ≡ machine_reads bs
reads-longer bs ps h =
    let longer : most_bytes < length (bs ++ ps) = omega (arith, length-append bs ps) in
    reads-long (bs ++ ps) longer
    ∙ ap (λ xs. Err (long_answer (text_behind xs).state)) (take-append-le most_bytes bs ps (omega arith))
    ∙ sym (reads-long bs h)

-- the front of two lists
take_over : (n : ℕ) (bs ps : List ℕ) → length bs ≤ n →
    take n (bs ++ ps) ≡ bs ++ take (n - length bs) ps
take_over n [] ps h = let e : n ≡ n - 0 = omega arith in ap (λ m. take m ps) e
take_over zero (b ∷ bs) ps h = absurd (omega arith)
take_over (suc k) (b ∷ bs) ps h =
    let rest : take k (bs ++ ps) ≡ bs ++ take (k - length bs) ps = take_over k bs ps (omega arith) in
    let same : k - length bs ≡ suc k - length (b ∷ bs) = omega arith in
    ap (λ xs. b ∷ xs) (rest ∙ ap (λ m. bs ++ take m ps) same)

-- behind a text that is not too long, so many bytes more are judged
pub reads-beyond : (bs ps : List ℕ) → length bs ≤ most_bytes → most_bytes < length bs + length ps →
    machine_reads (bs ++ ps) ≡
    Err (long_answer (fold (read_byte eat_token close_line) (text_behind bs) (take (most_bytes - length bs) ps)).state)
reads-beyond bs ps h long =
    let longer : most_bytes < length (bs ++ ps) = omega (arith, length-append bs ps) in
    reads-long (bs ++ ps) longer
    ∙ ap (λ xs. Err (long_answer (text_behind xs).state)) (take_over most_bytes bs ps h)
    ∙ ap (λ (r : Reading TextView). Err (long_answer r.state)) (reading_append eat_token close_line text_at_start bs (take (most_bytes - length bs) ps))

-- a refusal of a complete line is the refusal of each text that goes on
pub reads-stopped : (x : TextRefused) (bs ps : List ℕ) → length bs ≤ most_bytes →
    machine_stops bs ≡ Some x → machine_reads (bs ++ ps) ≡ Err x
reads-stopped x bs ps h e =
    elim (cases_lt most_bytes (length (bs ++ ps))) [
      | inl long ↦
          reads-long (bs ++ ps) long
          ∙ ap (λ xs. Err (long_answer (text_behind xs).state)) (take_over most_bytes bs ps h)
          ∙ ap (λ o. Err (long_by o (text_behind (bs ++ take (most_bytes - length bs) ps)).state.lines)) (stops_stay x bs (take (most_bytes - length bs) ps) e)
      | inr short ↦
          let j : TextView = text_ends eat_token close_line (text_behind (bs ++ ps)) in
          reads-short (bs ++ ps) short
          ∙ ap (λ o. answer_by o j.lines j.state) (end_keeps x (text_behind (bs ++ ps)) (stops_stay x bs ps e))
    ]

-- lines behind a refused line change nothing
pub lines_keep : (x : TextRefused) (j : TextView) (ls : List (List ℕ)) → j.stopped ≡ Some x →
    (lines_read eat_token close_line j ls).stopped ≡ Some x
unfolding lines_read
lines_keep x j [] h = h
lines_keep x j (l ∷ ls) h =
    lines_keep x (line_read eat_token close_line j l) ls (close_keeps x (eats eat_token j (tokens l)) (stop_kept j (tokens l) ∙ h))

pub lowest_counts : (x : TextRefused) (ls ms : List (List ℕ)) → (text_after ls).stopped ≡ Some x →
    (text_after (ls ++ ms)).stopped ≡ Some x
unfolding lines_read
lowest_counts x ls ms h =
    ap (λ (j : TextView). j.stopped) (fold-append (line_read eat_token close_line) text_at_start ls ms)
    ∙ lines_keep x (text_after ls) ms h
