-- A text says to the machine what it says.
use Rattle.std.proofs.Common.{◌≡◌, ℕ, ◌+◌, Bool, true, false, cond, leb, List, [], ◌∷◌, take, length, Option, Some, None, Result, Ok, Err, refl, sym, subst, ap, ◌∙◌}
use Rattle.dimacs_tokens.specs.Cuts.{tokens, lines, complete}
use Rattle.dimacs_tokens.specs.Seen.{seen_token}
use Rattle.dimacs_tokens.specs.Reading.{eats, line_read, lines_read}
use Rattle.dimacs_front.specs.declared.refused.TextRefused.{TextRefused}
use Rattle.dimacs_front.specs.declared.refused.TextRefused.TheVariants.{TextTooLong}
use Rattle.dimacs_front.specs.declared.input.Input.{Input}
use Rattle.dimacs_front.specs.Limits.{most_bytes}
use Rattle.dimacs_front.specs.Steps.{and_then, steps}
use Rattle.dimacs_front.specs.TextLines.{Said, line_says, Lines, no_line, next_line, lines_say}
use Rattle.dimacs_front.specs.TextEnds.{end_says}
use Rattle.dimacs_front.specs.Whole.{last_line, reads, refusal_of, stops}
use Rattle.dimacs_front.specs.MachinePlaces.{refusal_at}
use Rattle.dimacs_front.specs.Machine.{StateView, eaten}
use Rattle.dimacs_front.proofs.MachineLines.{tokens_said, line_said}
use Rattle.dimacs_front.specs.MachineText.{TextView, text_at, eat_token, close_line, text_after, answer_by, answer, long_by, long_answer, machine_reads, machine_stops}
use Rattle.dimacs_front.proofs.Ties.{place_of, state_of, Met}
use Rattle.dimacs_front.proofs.LineTie.{line_met}
use Rattle.dimacs_front.proofs.EndTie.{end_met}
use Rattle.dimacs_front.proofs.Stopping.{lines_keep}

tokens_eaten : (n : ℕ) (s : StateView) (o : Option TextRefused) (ts : List (List ℕ)) →
    eats eat_token (text_at n s o) ts ≡ text_at n (tokens_said (n + 1) s ts) o
unfolding eats
tokens_eaten n s o [] = refl
tokens_eaten n s o (t ∷ ts) = tokens_eaten n (eaten (n + 1) s (seen_token t)) o ts

line_eaten : (n : ℕ) (s : StateView) (line : List ℕ) →
    line_read eat_token close_line (text_at n s None) line ≡
    text_at (n + 1) (line_said (n + 1) s (tokens line)) (refusal_at (line_said (n + 1) s (tokens line)).place)
line_eaten n s line = ap close_line (tokens_eaten n s None (tokens line))

-- the machine is behind these lines, or stopped at their refusal
abbrev pub Follows : Result Lines TextRefused → TextView → Type 0
Follows (Ok j) t = t ≡ text_at j.count (state_of j.said) None
Follows (Err r) t = t.stopped ≡ Some r

no_refusal : (s : Said) → refusal_at (state_of s).place ≡ None
no_refusal s = at s.over
  where
    at : (over : Bool) → refusal_at (place_of over) ≡ None
    at true = refl
    at false = refl

one_follows : (n : ℕ) (x : Result Said TextRefused) (s : StateView) → Met state_of x s →
    Follows (and_then (λ u. Ok (record { count = n; said = u })) x) (text_at n s (refusal_at s.place))
one_follows n (Ok u) s h =
    ap (λ v. text_at n v (refusal_at (StateView.place v))) h
    ∙ ap (text_at n (state_of u)) (no_refusal u)
one_follows n (Err r) s h = ap refusal_at h

lines_follow : (j : Lines) (ls : List (List ℕ)) →
    Follows (steps next_line j ls) (lines_read eat_token close_line (text_at j.count (state_of j.said) None) ls)
unfolding lines_read
lines_follow j [] = refl
lines_follow j (l ∷ ls) =
    at (next_line j l)
    (subst (Follows (next_line j l)) (sym (line_eaten j.count (state_of j.said) l)) (one_follows (j.count + 1) (line_says (j.count + 1) j.said (tokens l)) (line_said (j.count + 1) (state_of j.said) (tokens l)) (line_met (j.count + 1) j.said (tokens l))))
    (λ k. lines_follow k ls)
  where
    at : (x : Result Lines TextRefused) →
        Follows x (line_read eat_token close_line (text_at j.count (state_of j.said) None) l) →
        ((k : Lines) → Follows (steps next_line k ls) (lines_read eat_token close_line (text_at k.count (state_of k.said) None) ls)) →
        Follows (and_then (λ k. steps next_line k ls) x) (lines_read eat_token close_line (line_read eat_token close_line (text_at j.count (state_of j.said) None) l) ls)
    at (Ok k) h more =
        subst (λ t. Follows (steps next_line k ls) (lines_read eat_token close_line t ls)) (sym h) (more k)
    at (Err r) h more = lines_keep r _ ls h

pub text_follows : (ls : List (List ℕ)) → Follows (lines_say ls) (text_after ls)
unfolding lines_say
text_follows ls = lines_follow no_line ls

stops_at : (x : Result Lines TextRefused) (t : TextView) → Follows x t → refusal_of x ≡ t.stopped
stops_at (Ok j) t h = sym (ap (λ u. TextView.stopped u) h)
stops_at (Err r) t h = sym h

pub stops_same : (bs : List ℕ) → stops bs ≡ machine_stops bs
unfolding stops machine_stops
stops_same bs = stops_at (lines_say (complete bs)) (text_after (complete bs)) (text_follows (complete bs))

answers_at : (x : Result Lines TextRefused) (t : TextView) → Follows x t →
    and_then (λ j. end_says (last_line j.count) j.said j.said.below) x ≡ answer t
answers_at (Ok j) t h =
    end_met (last_line j.count) j.said ∙ sym (ap answer h)
answers_at (Err r) t h = ap (λ o. answer_by o t.lines t.state) (sym h)

long_at : (x : Result Lines TextRefused) (t : TextView) → Follows x t →
    and_then {B = Input} (λ j. Err (TextTooLong (Lines.count j + 1))) x ≡ Err (long_answer t)
long_at (Ok j) t h = sym (ap (λ u. Err (long_answer u)) h)
long_at (Err r) t h = ap (λ o. Err (long_by o t.lines)) (sym h)

pub reads_same : (bs : List ℕ) → reads bs ≡ machine_reads bs
unfolding reads machine_reads
reads_same bs =
    (λ i. cond (leb (length bs) most_bytes)
    (answers_at (lines_say (lines bs)) (text_after (lines bs)) (text_follows (lines bs)) i)
    (long_at (lines_say (complete (take most_bytes bs))) (text_after (complete (take most_bytes bs))) (text_follows (complete (take most_bytes bs))) i))
