-- What the reading of a text from a source answers.
use Rattle.std.specs.Prelude.{◌≡◌, ℕ, ◌+◌, ◌^◌, ◌<◌, ◌≤◌, ◌⊎◌, true, List, ◌++◌, length, ℤ, Option, Some, None, Result, Ok, Err}
use Rattle.dimacs_tokens.specs.Cuts.{complete}
use Rattle.std.specs.List.{All, sum_by}
use Rattle.sat_terms.specs.Cubes.{within, IsCube}
use Rattle.sat_terms.specs.Subjects.{IsSubject}
use Rattle.checkpoint.specs.declared.saved.Saved.{Saved}
use Rattle.cube_check.specs.declared.met.Met.{Met}
use Rattle.cube_check.specs.Verdicts.{IsMet}
use Rattle.fault_io.specs.Bytes.{Consumes, IsAtEnd}
use Rattle.fault_io.specs.Faults.{Rose}
use Rattle.fault_io.specs.Sources.{SourceView}
use Rattle.dimacs_front.specs.declared.refused.TextRefused.{TextRefused}
use Rattle.dimacs_front.specs.declared.refused.TextRefused.TheVariants.{TextTooLong}
use Rattle.dimacs_front.specs.declared.refused.ReadRefused.{ReadRefused}
use Rattle.dimacs_front.specs.declared.refused.ReadRefused.TheVariants.{Text, ReadFault, OutOfMemory}
use Rattle.dimacs_front.specs.declared.input.Input.{Input}
use Rattle.dimacs_front.specs.Limits.{most_bytes, piece_size, most_clauses, most_literals, most_shown}
use Rattle.dimacs_front.specs.Whole.{reads, stops}

-- all bytes were taken, and they say this input
pub record IsInput (left : Option (List ℕ)) (bs : List ℕ) (input : Input) : Type 0 where
  pub at_end : IsAtEnd left
  pub says : reads bs ≡ Ok input

-- more bytes were taken than a text has, and the refusal is for that
pub record IsTooMuch (bs : List ℕ) (r : TextRefused) : Type 0 where
  pub beyond : most_bytes < length bs
  pub line : ℕ
  pub named : r ≡ TextTooLong line

-- the bytes taken are refused; all were taken, or one of their complete lines is refused, or they
-- are too many
pub record IsRefused (left : Option (List ℕ)) (bs : List ℕ) (r : TextRefused) : Type 0 where
  pub found : IsAtEnd left ⊎ ((stops bs ≡ Some r) ⊎ IsTooMuch bs r)
  pub says : reads bs ≡ Err r

-- no complete line among the bytes taken is refused, and the line is the one behind these
pub record IsOpenLine (bs : List ℕ) (line : ℕ) : Type 0 where
  pub going : stops bs ≡ None
  pub open_line : line ≡ length (complete bs) + 1

-- what the answer says of the bytes taken, where these are left; of want of memory nothing is said
abbrev pub SaysOf : Option (List ℕ) → List ℕ → Result Input ReadRefused → Type 0
SaysOf left bs (Ok input) = IsInput left bs input
SaysOf left bs (Err (Text r)) = IsRefused left bs r
SaysOf left bs (Err (ReadFault line)) = IsOpenLine bs line
SaysOf left bs (Err (OutOfMemory e)) = Unit {0}

-- the source failed where the answer is a read fault, and else it did not
abbrev pub CountsFaults : ℕ → ℕ → Result Input ReadRefused → Type 0
CountsFaults before now (Err (ReadFault line)) = Rose before now
CountsFaults before now result = now ≡ before

-- no byte was taken in vain: all of them but a last piece are within the limit, and no complete
-- line among these is refused
pub record IsAskedFor (bs : List ℕ) : Type 0 where
  pub front : List ℕ
  pub piece : List ℕ
  pub parts : front ++ piece ≡ bs
  pub small : length piece ≤ piece_size
  pub within : length front ≤ most_bytes
  pub going : stops front ≡ None

-- some bytes were taken, none of them in vain, and the answer is right for them
pub record ReadsText (old new : SourceView) (result : Result Input ReadRefused) : Type 0 where
  pub bytes : List ℕ
  pub consumed : Consumes old.left new.left bytes
  pub asked : IsAskedFor bytes
  pub says : SaysOf new.left bytes result
  pub counted : CountsFaults old.faults new.faults result

-- the answer is right for all the bytes that the source had, where it tells them
abbrev pub TellsText : Option (List ℕ) → Result Input ReadRefused → Type 0
TellsText (Some bs) (Ok input) = reads bs ≡ Ok input
TellsText (Some bs) (Err (Text r)) = reads bs ≡ Err r
TellsText left result = Unit {0}

-- the subject is one that every search takes, and none of its sizes is above the limits
pub record IsWithinLimits (input : Input) : Type 0 where
  pub subject : IsSubject input.subject.formula.variables input.subject.formula.clauses
      input.subject.shown input.subject.under
  pub clauses : length input.subject.formula.clauses ≤ most_clauses
  pub literals : sum_by length input.subject.formula.clauses ≤ most_literals
  pub shown : length input.subject.shown ≤ most_shown

-- the cubes are over the shown variables, and have all given literals
pub record AreInside (vs : List ℕ) (u : List ℤ) (cs : List (List ℤ)) : Type 0 where
  pub over : All (IsCube vs) cs
  pub inside : All (λ c. within c u ≡ true) cs

-- what a saved text has besides: cubes and prefixes that are so, and the prefixes can be numbered
pub record IsInside (vs : List ℕ) (u : List ℤ) (saved : Saved) : Type 0 where
  pub cubes : AreInside vs u saved.cubes
  pub pending : AreInside vs u saved.pending
  pub few : length saved.pending < 2 ^ 32

-- where the text is a saved text
abbrev pub IsSavedOf : List ℕ → List ℤ → Option Saved → Type 0
IsSavedOf vs u None = Unit {0}
IsSavedOf vs u (Some saved) = IsInside vs u saved

-- what a met text has besides: cubes over the shown variables, which have all given literals, each
-- with hidden literals
pub record AreMetOf (n : ℕ) (vs : List ℕ) (u : List ℤ) (met : List Met) : Type 0 where
  pub lines : All (IsMet n vs) met
  pub inside : All (λ m. within (Met.cube m) u ≡ true) met

-- where the text is a met text
abbrev pub IsMetOf : ℕ → List ℕ → List ℤ → Option (List Met) → Type 0
IsMetOf n vs u None = Unit {0}
IsMetOf n vs u (Some met) = AreMetOf n vs u met
