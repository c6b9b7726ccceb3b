-- The numbers, the names and the lines of refusals.
use Rattle.std.specs.Prelude.{ℕ, List, codes}
use Rattle.dimacs_front.specs.declared.refused.TextRefused.{TextRefused}
use Rattle.dimacs_front.specs.declared.refused.TextRefused.TheVariants.{BadStart, BadHeader, HeaderTwice, NoHeader, BadNumber, VariableTooLarge, Unfinished, ClauseCount, ShowBad, ShowUnended, TooManyVariables, TooManyClauses, TooManyLiterals, TooManyShown, TextTooLong, SavedBad, SavedUnended, NoMetText, UnderBad, UnderUnended}

-- the number that notes to the user give
abbrev pub number_of : TextRefused → ℕ
number_of (BadStart line) = 1
number_of (BadHeader line) = 2
number_of (HeaderTwice line) = 3
number_of (NoHeader line) = 4
number_of (BadNumber line) = 5
number_of (VariableTooLarge line) = 6
number_of (Unfinished line) = 7
number_of (ClauseCount line said found) = 8
number_of (ShowBad line) = 9
number_of (ShowUnended line) = 10
number_of (TooManyVariables line) = 11
number_of (TooManyClauses line) = 12
number_of (TooManyLiterals line) = 13
number_of (TooManyShown line) = 14
number_of (TextTooLong line) = 15
number_of (SavedBad line) = 16
number_of (SavedUnended line) = 17
number_of (NoMetText line) = 19
number_of (UnderBad line) = 21
number_of (UnderUnended line) = 22

-- the name there
abbrev pub name_of : TextRefused → List ℕ
name_of (BadStart line) = codes "BadStart"
name_of (BadHeader line) = codes "BadHeader"
name_of (HeaderTwice line) = codes "HeaderTwice"
name_of (NoHeader line) = codes "NoHeader"
name_of (BadNumber line) = codes "BadNumber"
name_of (VariableTooLarge line) = codes "VariableTooLarge"
name_of (Unfinished line) = codes "Unfinished"
name_of (ClauseCount line said found) = codes "ClauseCount"
name_of (ShowBad line) = codes "ShowBad"
name_of (ShowUnended line) = codes "ShowUnended"
name_of (TooManyVariables line) = codes "TooManyVariables"
name_of (TooManyClauses line) = codes "TooManyClauses"
name_of (TooManyLiterals line) = codes "TooManyLiterals"
name_of (TooManyShown line) = codes "TooManyShown"
name_of (TextTooLong line) = codes "TextTooLong"
name_of (SavedBad line) = codes "SavedBad"
name_of (SavedUnended line) = codes "SavedUnended"
name_of (NoMetText line) = codes "NoMetText"
name_of (UnderBad line) = codes "UnderBad"
name_of (UnderUnended line) = codes "UnderUnended"

-- the line that is refused, counted from 1
abbrev pub line_of : TextRefused → ℕ
line_of (BadStart line) = line
line_of (BadHeader line) = line
line_of (HeaderTwice line) = line
line_of (NoHeader line) = line
line_of (BadNumber line) = line
line_of (VariableTooLarge line) = line
line_of (Unfinished line) = line
line_of (ClauseCount line said found) = line
line_of (ShowBad line) = line
line_of (ShowUnended line) = line
line_of (TooManyVariables line) = line
line_of (TooManyClauses line) = line
line_of (TooManyLiterals line) = line
line_of (TooManyShown line) = line
line_of (TextTooLong line) = line
line_of (SavedBad line) = line
line_of (SavedUnended line) = line
line_of (NoMetText line) = line
line_of (UnderBad line) = line
line_of (UnderUnended line) = line
