-- What the definitions of lines and texts do not show by themselves.
use Rattle.std.specs.Prelude.{◌≡◌, ℕ, ◌+◌, ◌<◌, ◌≤◌, ℤ, pos, nat_abs, Bool, true, false, not, cond, ◌==◌, List, [], ◌∷◌, ◌++◌, length, map, fold, Option, Some, None, Ok, Err, codes}
use Rattle.std.specs.List.{All, AllPairs}
use Rattle.dimacs_tokens.specs.Numbers.{token_value}
use Rattle.dimacs_tokens.specs.Seen.{list_begins}
use Rattle.dimacs_front.specs.declared.met_lines.MetLine.{MetLine}
use Rattle.dimacs_front.specs.declared.saved_lines.SavedLine.{SavedLine}
use Rattle.dimacs_front.specs.declared.under_lines.Given.{Given}
use Rattle.dimacs_front.specs.declared.refused.TextRefused.{TextRefused}
use Rattle.dimacs_front.specs.declared.refused.TextRefused.TheVariants.{ShowBad, ShowUnended}
use Rattle.dimacs_front.specs.Limits.{most_variables, most_clauses, most_literals}
use Rattle.dimacs_front.specs.HeaderLines.{Below}
use Rattle.dimacs_front.specs.NumberLines.{literals_of, clause_ended, literal_added, number_says, numbers_say}
use Rattle.dimacs_front.specs.ListLines.{ListLine, is_variable, show_says}
use Rattle.dimacs_front.specs.LineWords.{words_of}
use Rattle.dimacs_front.specs.SavedTexts.{SavedSaid}
use Rattle.dimacs_front.specs.TextLines.{Said, line_says, Lines, lines_say}
use Rattle.dimacs_front.specs.MachineText.{text_after}

-- ---- lines of numbers

-- what one more number says, where there is room: a 0 ends the clause, and any other number is its
-- next literal
abbrev pub number_written : Below → ℤ → Below
number_written w l = cond (nat_abs l == 0) (clause_ended w) (literal_added w l)

abbrev pub numbers_written : Below → List ℤ → Below
numbers_written w ls = fold number_written w ls

-- how many of the numbers are a 0, which ends a clause, and how many are literals
abbrev pub zeros_in : List ℤ → ℕ
zeros_in [] = 0
zeros_in (l ∷ ls) = cond (nat_abs l == 0) (zeros_in ls + 1) (zeros_in ls)

abbrev pub literals_in : List ℤ → ℕ
literals_in [] = 0
literals_in (l ∷ ls) = cond (nat_abs l == 0) (literals_in ls) (literals_in ls + 1)

-- each number is a 0 or a literal of the header's variables, and the limits have room for the
-- clauses and for the literals
pub record HasRoom (w : Below) (ls : List ℤ) : Type 0 where
  pub named : All (λ l. nat_abs l ≤ w.variables) ls
  pub clauses : length w.clauses + zeros_in ls ≤ most_clauses
  pub literals : literals_of w + literals_in ls ≤ most_literals

-- a line of number tokens says just these numbers
abbrev pub ALineOfNumbersSaysThese : Type 0
ALineOfNumbersSaysThese =
    (n : ℕ) (w : Below) (ms : List ListLine) (gs : List Given) (k : SavedSaid)
    (ts : List (List ℕ)) (ls : List ℤ) →
    map token_value ts ≡ map (λ l. Some l) ls → HasRoom w ls →
    line_says n (record { below = Some w; shows = ms; given = gs; saved = k; over = false }) ts ≡
    Ok (record {
      below = Some (numbers_written w ls);
      shows = ms;
      given = gs;
      saved = k;
      over = false;
    })

-- the first refused number counts: it is refused by what those before it say, and those behind it
-- change nothing
abbrev pub TheFirstRefusedNumberCounts : Type 0
TheFirstRefusedNumberCounts =
    (n : ℕ) (w v : Below) (os ps : List (Option ℤ)) (o : Option ℤ) (r : TextRefused) →
    numbers_say n w os ≡ Ok v → number_says n v o ≡ Err r →
    numbers_say n w (os ++ o ∷ ps) ≡ Err r

-- ---- show lines

abbrev pub IsVariable : ℕ → Type 0
IsVariable v = (0 < v) × (v ≤ most_variables)

-- the values of tokens that are these variables
abbrev pub variables : List ℕ → List (Option ℤ)
variables vs = map (λ v. Some (pos v)) vs

-- a show line of variables, which a 0 ends, shows just these, above the header and below
abbrev pub AShowLineShowsItsVariables : Type 0
AShowLineShowsItsVariables =
    (n : ℕ) (o : Option Below) (ms : List ListLine) (gs : List Given) (k : SavedSaid)
    (ts : List (List ℕ)) (vs : List ℕ) →
    map token_value ts ≡ variables vs ++ Some (pos 0) ∷ [] → All IsVariable vs →
    line_says n (record { below = o; shows = ms; given = gs; saved = k; over = false })
    (words_of (codes "show") ++ ts) ≡
    Ok (record {
      below = o;
      shows = ms ++ record { line = n; values = map (λ v. pos v) vs } ∷ [];
      given = gs;
      saved = k;
      over = false;
    })

-- a value that stands in no show line: no number, or one that is no variable
abbrev pub is_foreign : Option ℤ → Bool
is_foreign None = true
is_foreign (Some l) = cond (nat_abs l == 0) false (not (is_variable l))

-- it is refused for the first such value, for a token behind its 0, and for want of a 0, whatever
-- follows
pub record ShowLinesAreRefused : Type 0 where
  pub foreign : (n : ℕ) (vs : List ℕ) (o : Option ℤ) (ps : List (Option ℤ)) →
      All IsVariable vs → is_foreign o ≡ true →
      show_says n (variables vs ++ o ∷ ps) ≡ Err (ShowBad n)
  pub behind : (n : ℕ) (vs : List ℕ) (o : Option ℤ) (ps : List (Option ℤ)) →
      All IsVariable vs →
      show_says n (variables vs ++ Some (pos 0) ∷ o ∷ ps) ≡ Err (ShowBad n)
  pub unended : (n : ℕ) (vs : List ℕ) →
      All IsVariable vs → show_says n (variables vs) ≡ Err (ShowUnended n)

-- the show lines are kept with rising numbers, so the first one found is the lowest
abbrev pub ShowLinesRise : Type 0
ShowLinesRise =
    (ls : List (List ℕ)) (j : Lines) → lines_say ls ≡ Ok j →
    AllPairs (λ k m. ListLine.line k < ListLine.line m) j.said.shows

-- the cube lines and the open lines of a saved text are kept so too, and the met lines of a met
-- text
abbrev pub is_lower_line : SavedLine → SavedLine → Type 0
is_lower_line k m = k.line < m.line

abbrev pub SavedLinesRise : Type 0
SavedLinesRise =
    (ls : List (List ℕ)) (j : Lines) → lines_say ls ≡ Ok j →
    AllPairs is_lower_line j.said.saved.cubes × AllPairs is_lower_line j.said.saved.pending
    × AllPairs (λ k m. MetLine.line k < MetLine.line m) j.said.saved.mets

-- ---- texts

-- a line without tokens changes nothing, whatever was said
abbrev pub ALineWithoutTokensChangesNothing : Type 0
ALineWithoutTokensChangesNothing = (n : ℕ) (s : Said) → line_says n s [] ≡ Ok s

-- the formula is over from a line below the header whose first byte is `%` (37); no line behind
-- that changes anything
abbrev pub TheFormulaEndsAtAPercent : Type 0
TheFormulaEndsAtAPercent =
    (n m : ℕ) (w : Below) (ms : List ListLine) (gs : List Given) (k : SavedSaid)
    (t : List ℕ) (ts us : List (List ℕ)) →
    list_begins t 37 ≡ true →
    (line_says n (record { below = Some w; shows = ms; given = gs; saved = k; over = false })
    (t ∷ ts) ≡
    Ok (record { below = Some w; shows = ms; given = gs; saved = k; over = true }))
    × (line_says m
    (record { below = Some w; shows = ms; given = gs; saved = k; over = true }) us ≡
    Ok (record { below = Some w; shows = ms; given = gs; saved = k; over = true }))

-- the lowest refused line counts: lines behind it change nothing
abbrev pub TheLowestRefusedLineCounts : Type 0
TheLowestRefusedLineCounts =
    (r : TextRefused) (ls ms : List (List ℕ)) → lines_say ls ≡ Err r →
    lines_say (ls ++ ms) ≡ Err r

-- however long the text is, the reader keeps no more variables of show lines than there may be
abbrev pub FewVariablesAreKept : Type 0
FewVariablesAreKept =
    (ls : List (List ℕ)) → length (text_after ls).state.named ≤ most_variables
