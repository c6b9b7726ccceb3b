-- What a whole text says. `reads` is the input or the refusal, and `stops` the refusal of its
-- lowest refused line.
use Rattle.std.specs.Prelude.{ℕ, ◌+◌, cond, ◌==◌, nat_le, List, length, take, Option, Some, None, Result, Ok, Err}
use Rattle.dimacs_tokens.specs.Cuts.{lines, complete}
use Rattle.dimacs_front.specs.declared.refused.TextRefused.{TextRefused}
use Rattle.dimacs_front.specs.declared.refused.TextRefused.TheVariants.{TextTooLong}
use Rattle.dimacs_front.specs.declared.input.Input.{Input}
use Rattle.dimacs_front.specs.Limits.{most_bytes}
use Rattle.dimacs_front.specs.Steps.{and_then}
use Rattle.dimacs_front.specs.TextLines.{Lines, lines_say}
use Rattle.dimacs_front.specs.TextEnds.{end_says}

-- the number of the last line, which is 1 where there is no line
abbrev pub last_line : ℕ → ℕ
last_line n = cond (n == 0) 1 n

-- the lowest refused line counts, and the end only where no line is refused; of a text that is too
-- long the complete lines within the limit count
unfoldable pub reads : List ℕ → Result Input TextRefused
reads bs =
    cond (nat_le (length bs) most_bytes)
    (and_then (λ j. end_says (last_line j.count) j.said j.said.below) (lines_say (lines bs)))
    (and_then (λ j. Err (TextTooLong (j.count + 1))) (lines_say (complete (take most_bytes bs))))

-- the refusal of the lowest refused line among the lines that byte 10 ends
abbrev pub refusal_of : Result Lines TextRefused → Option TextRefused
refusal_of (Ok j) = None
refusal_of (Err r) = Some r

unfoldable pub stops : List ℕ → Option TextRefused
stops bs = refusal_of (lines_say (complete bs))
