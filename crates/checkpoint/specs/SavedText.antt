-- The saved text, line by line.
use Rattle.std.specs.Prelude.{ℕ, List, [], ◌∷◌, ◌++◌, length, map, ℤ, pos, codes}
use Rattle.std.specs.Fmt.{decimal}
use Rattle.sat_terms.specs.declared.subject.Formula.{Formula}
use Rattle.sat_terms.specs.declared.subject.Subject.{Subject}
use Rattle.dimacs_tokens.specs.Texts.{text_of}
-- its lists are written as in a listing
pub use Rattle.cube_text.specs.Lines.{number_word, zero_ended}

-- the line that says which form the text has
abbrev pub version_line : List ℕ
version_line = codes "c allsat saved 2"

-- the line of the numbers of variables and of clauses, as `p cnf 2 2`
abbrev pub formula_line : Formula → List ℕ
formula_line f =
    codes "p cnf " ++ decimal f.variables ++ codes " " ++ decimal (length f.clauses)

-- the line of a clause, its literals as they were written; that of the empty clause is `0`
abbrev pub clause_line : List ℤ → List ℕ
clause_line clause = zero_ended clause

-- the line of the shown variables, as `c p show 1 2 0`
abbrev pub shown_line : List ℕ → List ℕ
shown_line shown = codes "c p show " ++ zero_ended (map pos shown)

-- the line of the given literals; without any it is `c p under 0`
abbrev pub given_line : List ℤ → List ℕ
given_line under = codes "c p under " ++ zero_ended under

-- the line of a cube that was found, as `c p cube -1 2 0`
abbrev pub found_line : List ℤ → List ℕ
found_line cube = codes "c p cube " ++ zero_ended cube

-- the line of a prefix that is pending, as `c p open 1 0`
abbrev pub open_line : List ℤ → List ℕ
open_line prefix = codes "c p open " ++ zero_ended prefix

-- the last line, without which a text is not whole
abbrev pub closing_line : List ℕ
closing_line = codes "c p end"

-- the lines of a subject
abbrev pub subject_lines : Subject → List (List ℕ)
subject_lines s = formula_line s.formula ∷ map clause_line s.formula.clauses
    ++ shown_line s.shown ∷ given_line s.under ∷ []

-- The saved text of a subject, of the cubes that were found and of the pending prefixes: the lines
-- of each in order.
abbrev pub saved_text : Subject → List (List ℤ) → List (List ℤ) → List ℕ
saved_text s found pending = text_of (version_line ∷ subject_lines s
    ++ map found_line found ++ map open_line pending ++ closing_line ∷ [])
