-- The reader's machine: what a token does to it, and what the end of a line does. Here n is the
-- line's number, counted from 1.
use Rattle.std.specs.Prelude.{ℕ, Bool, true, false, cond, ◌==◌, ◌&&◌, ◌||◌, nat_le, nat_lt, codes, List, [], ◌∷◌, ◌++◌, length, ◌+◌, ℤ, nat_abs, Option, Some, None}
use Rattle.std.specs.List.{list_any}
use Rattle.std.specs.Str.{bytes_eq}
use Rattle.dimacs_tokens.specs.Numbers.{value_of}
use Rattle.dimacs_tokens.specs.Seen.{SeenView, begins_with}
use Rattle.dimacs_front.specs.declared.refused.TextRefused.{TextRefused}
use Rattle.dimacs_front.specs.declared.refused.TextRefused.TheVariants.{BadHeader, HeaderTwice, BadNumber, VariableTooLarge, ShowBad, TooManyVariables, TooManyClauses, TooManyLiterals, UnderBad, SavedBad}
use Rattle.dimacs_front.specs.declared.line_place.LinePlace.{LinePlace}
use Rattle.dimacs_front.specs.declared.header_place.HeaderPlace.{HeaderPlace}
use Rattle.dimacs_front.specs.declared.header_place.HeaderPlace.TheVariants.{End}
use Rattle.dimacs_front.specs.declared.saved_place.OpenList.{OpenList}
use Rattle.dimacs_front.specs.declared.saved_place.OpenList.TheVariants.{Line, Shown, Hidden}
use Rattle.dimacs_front.specs.declared.saved_place.SavedPlace.{SavedPlace}
use Rattle.dimacs_front.specs.declared.saved_place.SavedPlace.TheVariants as saved
use Rattle.dimacs_front.specs.declared.saved_place.SavedPlace.TheVariants.{First, MetFirst, Listed, Complete}
use Rattle.dimacs_front.specs.declared.line_place.LinePlace.TheVariants.{Beginning, Header, Numbers, Comment, Show, ShowEnd, Under, UnderEnd, Saved, Over, Refused}
use Rattle.dimacs_front.specs.declared.show_lines.Named.{Named}
use Rattle.dimacs_front.specs.declared.under_lines.Given.{Given}
use Rattle.dimacs_front.specs.Limits.{most_variables, most_clauses, most_literals}
use Rattle.dimacs_front.specs.HeaderLines.{natural}
use Rattle.sat_terms.specs.Cubes.{last_variable}
use Rattle.dimacs_front.specs.SavedTexts.{SavedSaid, nothing_saved, with_line, with_met}
use Rattle.dimacs_front.specs.MachineHeader.{header_after}
use Rattle.dimacs_front.specs.MachineComment.{comment_begun, comment_after}
use Rattle.dimacs_front.specs.MachinePlaces.{comment_byte, header_byte, percent, above_begun, in_comment, place_closed}

-- what the header and the clauses say: the numbers of variables and of clauses by the header, the
-- clauses that are ended, the literals behind them, and how many literals there are in all
pub record WrittenView : Type 0 where
  pub variables : ℕ
  pub said : ℕ
  pub clauses : List (List ℤ)
  pub open_clause : List ℤ
  pub literals : ℕ

-- below the header
abbrev pub nothing_written : ℕ → ℕ → WrittenView
nothing_written v c =
    record { variables = v; said = c; clauses = []; open_clause = []; literals = 0 }

-- the clause is ended, and its next literal
abbrev pub clause_written : WrittenView → WrittenView
clause_written w = record w { clauses = w.clauses ++ w.open_clause ∷ []; open_clause = [] }

abbrev pub literal_written : WrittenView → ℤ → WrittenView
literal_written w l =
    record w { open_clause = w.open_clause ++ l ∷ []; literals = w.literals + 1 }

-- whether a show line names the variable
abbrev pub is_named : List Named → ℕ → Bool
is_named ms v = list_any (λ m. m.variable == v) ms

-- a variable is kept once, with the first show line that names it
abbrev pub name_once : List Named → Named → List Named
name_once ms m = cond (is_named ms m.variable) ms (ms ++ m ∷ [])

-- the place in the line, whether there was a header, the formula below it, whether a show line was
-- ended, the variables of all show lines, each with the first line that names it, the literals of
-- the under lines, the lines of a saved or a met text's own, the literals of their open list, and
-- the cube of the open met line
pub record StateView : Type 0 where
  pub place : LinePlace
  pub started : Bool
  pub formula : WrittenView
  pub given : Bool
  pub named : List Named
  pub under : List Given
  pub saved : SavedSaid
  pub lits : List ℤ
  pub first : List ℤ

abbrev pub nothing_said_yet : StateView
nothing_said_yet = record {
  place = Beginning;
  started = false;
  formula = nothing_written 0 0;
  given = false;
  named = [];
  under = [];
  saved = nothing_saved;
  lits = [];
  first = [];
}

-- the state at another place
abbrev pub at_place : StateView → LinePlace → StateView
at_place s p = record s { place = p }

abbrev pub refuse : StateView → TextRefused → StateView
refuse s r = at_place s (Refused r)

-- the state among the clauses, with this formula
abbrev pub in_clauses : StateView → WrittenView → StateView
in_clauses s w = record s { place = Numbers; formula = w }

-- a token of a clause: 0 ends the clause, and any other number is its next literal
abbrev pub zero_eaten : ℕ → StateView → StateView
zero_eaten n s =
    cond (nat_lt (length s.formula.clauses) most_clauses)
    (in_clauses s (clause_written s.formula))
    (refuse s (TooManyClauses n))

abbrev pub literal_eaten : ℕ → StateView → ℤ → StateView
literal_eaten n s l =
    cond (nat_le (nat_abs l) s.formula.variables)
    (cond (nat_lt s.formula.literals most_literals)
    (in_clauses s (literal_written s.formula l))
    (refuse s (TooManyLiterals n)))
    (refuse s (VariableTooLarge n))

abbrev pub number_eaten : ℕ → StateView → Option ℤ → StateView
number_eaten n s None = refuse s (BadNumber n)
number_eaten n s (Some l) = cond (nat_abs l == 0) (zero_eaten n s) (literal_eaten n s l)

-- a token of a show line: variables, and a 0 that ends them
abbrev pub show_ended : StateView → StateView
show_ended s = record s { place = ShowEnd; given = true }

abbrev pub variable_named : ℕ → StateView → ℕ → StateView
variable_named n s v =
    record s { named = name_once s.named (record { variable = v; line = n }) }

abbrev pub shown_eaten : ℕ → StateView → Option ℕ → StateView
shown_eaten n s None = refuse s (ShowBad n)
shown_eaten n s (Some v) =
    cond (v == 0)
    (show_ended s)
    (cond (nat_le v most_variables) (variable_named n s v) (refuse s (ShowBad n)))

-- a token of an under line: literals, and a 0 that ends them
abbrev pub literal_given : ℕ → StateView → ℤ → StateView
literal_given n s l = record s { under = s.under ++ record { literal = l; line = n } ∷ [] }

abbrev pub under_eaten : ℕ → StateView → Option ℤ → StateView
under_eaten n s None = refuse s (UnderBad n)
under_eaten n s (Some l) =
    cond (nat_abs l == 0)
    (at_place s UnderEnd)
    (cond (nat_le (nat_abs l) most_variables) (literal_given n s l) (refuse s (UnderBad n)))

-- a token of a list: literals whose variables rise, and a 0 that ends them
abbrev pub literal_listed : StateView → ℤ → StateView
literal_listed s l = record s { lits = s.lits ++ l ∷ [] }

abbrev pub list_ended : OpenList → ℕ → StateView → StateView
list_ended (Line list) n s = record s {
  place = Saved Complete;
  saved = with_line list s.saved (record { line = n; cube = s.lits });
  lits = [];
}
list_ended Shown n s = record s { place = Saved (Listed Hidden); lits = []; first = s.lits }
list_ended Hidden n s = record s {
  place = Saved Complete;
  saved =
      with_met s.saved (record { line = n; met = record { cube = s.first; hidden = s.lits } });
  lits = [];
  first = [];
}

abbrev pub listed_eaten : OpenList → ℕ → StateView → Option ℤ → StateView
listed_eaten list n s None = refuse s (SavedBad n)
listed_eaten list n s (Some l) =
    cond (nat_abs l == 0)
    (list_ended list n s)
    (cond (nat_le (nat_abs l) most_variables && nat_lt (last_variable 0 s.lits) (nat_abs l))
    (literal_listed s l)
    (refuse s (SavedBad n)))

-- the version of a saved text
abbrev pub text_named : StateView → StateView
text_named s = record s { place = Saved Complete; saved = record s.saved { named = true } }

abbrev pub version_eaten : ℕ → StateView → SeenView → StateView
version_eaten n s t =
    cond (bytes_eq t.head (codes "1") || bytes_eq t.head (codes "2"))
    (text_named s)
    (refuse s (SavedBad n))

-- and of a met text
abbrev pub met_named : StateView → StateView
met_named s = record s { place = Saved Complete; saved = record s.saved { met = true } }

abbrev pub met_version_eaten : ℕ → StateView → SeenView → StateView
met_version_eaten n s t =
    cond (bytes_eq t.head (codes "1")) (met_named s) (refuse s (SavedBad n))

abbrev pub saved_eaten : SavedPlace → ℕ → StateView → SeenView → StateView
saved_eaten First n s t = version_eaten n s t
saved_eaten MetFirst n s t = met_version_eaten n s t
saved_eaten (Listed list) n s t = listed_eaten list n s (value_of t.number)
saved_eaten Complete n s t = refuse s (SavedBad n)
saved_eaten saved.End n s t = refuse s (SavedBad n)

-- the first token of a line below the header: `p` begins a second header, and `%` ends the formula
abbrev pub below_begun : ℕ → StateView → SeenView → StateView
below_begun n s t =
    cond (begins_with t header_byte)
    (refuse s (HeaderTwice n))
    (cond (begins_with t percent) (at_place s Over) (number_eaten n s (value_of t.number)))

-- the first token of a line: `c` begins a comment
abbrev pub line_begun : ℕ → StateView → SeenView → StateView
line_begun n s t =
    cond (begins_with t comment_byte)
    (at_place s (in_comment s.saved n (comment_begun t)))
    (cond s.started (below_begun n s t) (at_place s (above_begun n t)))

-- a token in a line at this place
abbrev pub eaten_at : LinePlace → ℕ → StateView → SeenView → StateView
eaten_at Beginning n s t = line_begun n s t
eaten_at (Header h) n s t = at_place s (Header (header_after h t))
eaten_at Numbers n s t = number_eaten n s (value_of t.number)
eaten_at (Comment c) n s t = at_place s (in_comment s.saved n (comment_after c n t))
eaten_at Show n s t = shown_eaten n s (natural (value_of t.number))
eaten_at ShowEnd n s t = refuse s (ShowBad n)
eaten_at Under n s t = under_eaten n s (value_of t.number)
eaten_at UnderEnd n s t = refuse s (UnderBad n)
eaten_at (Saved p) n s t = saved_eaten p n s t
eaten_at Over n s t = s
eaten_at (Refused r) n s t = s

unfoldable pub eaten : ℕ → StateView → SeenView → StateView
eaten n s t = eaten_at s.place n s t

-- the state below a header with these numbers
abbrev pub below_header : StateView → ℕ → ℕ → StateView
below_header s v c =
    record s { place = Beginning; started = true; formula = nothing_written v c }

abbrev pub formula_begun : ℕ → StateView → ℕ → ℕ → StateView
formula_begun n s v c =
    cond (nat_le v most_variables)
    (cond (nat_le c most_clauses)
    (below_header s v c)
    (refuse s (TooManyClauses n)))
    (refuse s (TooManyVariables n))

-- the header's line ends
abbrev pub header_ended : HeaderPlace → ℕ → StateView → StateView
header_ended (End v c) n s = formula_begun n s v c
header_ended h n s = refuse s (BadHeader n)

-- the end line of a saved or a met text ends
abbrev pub text_ended : StateView → StateView
text_ended s = record s { place = Beginning; saved = record s.saved { ended = true } }

abbrev pub closed_at : LinePlace → ℕ → StateView → StateView
closed_at (Header h) n s = header_ended h n s
closed_at (Saved saved.End) n s = text_ended s
closed_at p n s = at_place s (place_closed p n)

unfoldable pub closed : ℕ → StateView → StateView
closed n s = closed_at s.place n s
