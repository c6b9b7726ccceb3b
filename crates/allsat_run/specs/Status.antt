-- The code of a status, and the line that it puts on the notes.
use Rattle.std.specs.Prelude.{ℕ, List, [], ◌++◌, codes}
use Rattle.std.specs.Fmt.{decimal}
use Rattle.dimacs_front.specs.declared.refused.TextRefused.{TextRefused}
use Rattle.dimacs_front.specs.declared.refused.TextRefused.TheVariants.{ClauseCount}
use Rattle.dimacs_front.specs.Numbering.{number_of, name_of, line_of}
use Rattle.allsat_run.specs.declared.status.Status.{Status}
use Rattle.allsat_run.specs.declared.status.Status.TheVariants.{Finished, WordsRefused, InputRefused, BudgetSpent, OutOfMemory, ReadFault, WriteFault, CheckedNo}

-- the exit code
abbrev pub code_of : Status → ℕ
code_of Finished = 0
code_of WordsRefused = 1
code_of (InputRefused r) = 2
code_of BudgetSpent = 3
code_of OutOfMemory = 4
code_of (ReadFault line) = 5
code_of WriteFault = 6
code_of (CheckedNo v) = 7

-- a number, and the end of the line
abbrev pub number_line : ℕ → List ℕ
number_line n = decimal n ++ codes "\n"

-- behind the line of a refused number of clauses: the header's number, and how many there are
abbrev pub counts_of : TextRefused → List ℕ
counts_of (ClauseCount line said found) =
    codes " said " ++ decimal said ++ codes " found " ++ decimal found
counts_of r = []

-- the number, the name and the line of a refusal, and the end of the line
abbrev pub refusal_text : TextRefused → List ℕ
refusal_text r = decimal (number_of r) ++ codes " " ++ name_of r
    ++ codes " line " ++ decimal (line_of r) ++ counts_of r ++ codes "\n"

-- the line on the notes; a finished run puts none
abbrev pub note_of : Status → List ℕ
note_of Finished = []
note_of WordsRefused = codes "allsat: words refused\n"
note_of (InputRefused r) = codes "allsat: input refused: " ++ refusal_text r
note_of BudgetSpent = codes "allsat: budget spent\n"
note_of OutOfMemory = codes "allsat: out of memory\n"
note_of (ReadFault line) = codes "allsat: read fault line " ++ number_line line
note_of WriteFault = codes "allsat: write fault\n"
note_of (CheckedNo v) = codes "allsat: check said no\n"
