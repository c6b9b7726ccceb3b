-- What any line of a text says, and the lines together. Here n is the line's number.
use Rattle.std.specs.Prelude.{ℕ, ◌+◌, Bool, true, false, not, cond, List, [], ◌∷◌, ◌++◌, map, drop, Option, Some, None, Result, Ok, codes}
use Rattle.dimacs_tokens.specs.Cuts.{tokens}
use Rattle.dimacs_tokens.specs.Numbers.{token_value}
use Rattle.dimacs_tokens.specs.Seen.{list_begins}
use Rattle.dimacs_front.specs.declared.refused.TextRefused.{TextRefused}
use Rattle.dimacs_front.specs.declared.refused.TextRefused.TheVariants.{BadStart, HeaderTwice}
use Rattle.dimacs_front.specs.declared.under_lines.Given.{Given}
use Rattle.dimacs_front.specs.Steps.{and_then, needs, steps}
use Rattle.dimacs_front.specs.HeaderLines.{Below, header_says}
use Rattle.dimacs_front.specs.NumberLines.{numbers_say}
use Rattle.dimacs_front.specs.LineWords.{begins_by, words_of}
use Rattle.dimacs_front.specs.ListLines.{ListLine, show_says, under_says}
use Rattle.dimacs_front.specs.SavedTexts.{SavedSaid, nothing_saved, saved_says}

-- what the lines so far say: the header and the numbers below it, the show lines in their order,
-- the literals of the under lines, the lines of a saved or a met text's own, and whether the
-- formula is over
pub record Said : Type 0 where
  pub below : Option Below
  pub shows : List ListLine
  pub given : List Given
  pub saved : SavedSaid
  pub over : Bool

abbrev pub with_below : Said → Below → Said
with_below s w = record s { below = Some w }

abbrev pub with_show : Said → ListLine → Said
with_show s m = record s { shows = s.shows ++ m ∷ [] }

-- the literals of an under line are given
abbrev pub with_given : Said → ListLine → Said
with_given s m =
    record s { given = s.given ++ map (λ l. record { literal = l; line = m.line }) m.values }

abbrev pub with_saved : Said → SavedSaid → Said
with_saved s k = record s { saved = k }

-- a comment line: other ones than these change nothing
abbrev pub comment_says : ℕ → Said → List (List ℕ) → Result Said TextRefused
comment_says n s ts =
    cond (begins_by (words_of (codes "show")) ts)
    (and_then (λ m. Ok (with_show s m)) (show_says n (map token_value (drop 3 ts))))
    (cond (begins_by (words_of (codes "under")) ts)
    (and_then (λ m. Ok (with_given s m)) (under_says n (map token_value (drop 3 ts))))
    (and_then (λ k. Ok (with_saved s k)) (saved_says n s.saved ts)))

-- a line whose first token is t, and no comment: up to the header, and below it. The bytes 112 and
-- 37 are `p` and `%`
abbrev pub plain_says : ℕ → Said → Option Below → List ℕ → List (List ℕ) →
    Result Said TextRefused
plain_says n s None t ts =
    needs (list_begins t 112) (BadStart n)
    (and_then (λ w. Ok (with_below s w)) (header_says n (t ∷ ts)))
plain_says n s (Some w) t ts =
    needs (not (list_begins t 112)) (HeaderTwice n)
    (cond (list_begins t 37)
    (Ok (record s { over = true }))
    (and_then (λ v. Ok (with_below s v)) (numbers_say n w (map token_value (t ∷ ts)))))

-- a line of these tokens; the byte 99 is `c`
unfoldable pub line_says : ℕ → Said → List (List ℕ) → Result Said TextRefused
line_says n s [] = Ok s
line_says n s (t ∷ ts) =
    cond s.over (Ok s)
    (cond (list_begins t 99) (comment_says n s (t ∷ ts)) (plain_says n s s.below t ts))

-- how many lines there were, and what they say
pub record Lines : Type 0 where
  pub count : ℕ
  pub said : Said

abbrev pub nothing_said : Said
nothing_said =
    record { below = None; shows = []; given = []; saved = nothing_saved; over = false }

abbrev pub no_line : Lines
no_line = record { count = 0; said = nothing_said }

abbrev pub next_line : Lines → List ℕ → Result Lines TextRefused
next_line j line =
    and_then (λ s. Ok (record { count = j.count + 1; said = s }))
    (line_says (j.count + 1) j.said (tokens line))

unfoldable pub lines_say : List (List ℕ) → Result Lines TextRefused
lines_say ls = steps next_line no_line ls
