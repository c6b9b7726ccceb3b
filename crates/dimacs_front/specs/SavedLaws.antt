-- A saved text is read back.
use Rattle.std.specs.Prelude.{◌≡◌, ◌≤◌, List, ℤ, length, Some, None, Ok}
use Rattle.sat_terms.specs.declared.subject.Subject.{Subject}
use Rattle.checkpoint.specs.SavedText.{saved_text}
use Rattle.dimacs_front.specs.declared.input.Input.{Input}
use Rattle.dimacs_front.specs.Limits.{most_bytes}
use Rattle.dimacs_front.specs.Whole.{reads}
use Rattle.dimacs_front.specs.Answers.{IsWithinLimits, AreInside}

-- a subject of which these cubes and prefixes are saved
abbrev pub saved_input : Subject → List (List ℤ) → List (List ℤ) → Input
saved_input s found pending =
    record { subject = s; saved = Some (record { cubes = found; pending = pending }); met = None }

-- The text that is saved of a subject within the limits, of cubes and of prefixes, over its shown
-- variables and within its given literals, says just these, unless it is too long to be read.
abbrev pub SavedTextReadsBack : Type 0
SavedTextReadsBack =
    (s : Subject) (found pending : List (List ℤ)) →
    IsWithinLimits (saved_input s found pending) → AreInside s.shown s.under found →
    AreInside s.shown s.under pending → length (saved_text s found pending) ≤ most_bytes →
    reads (saved_text s found pending) ≡ Ok (saved_input s found pending)
