-- How a book begins.
use Rattle.std.specs.Prelude.{◌≡◌, ℕ, ◌<◌, ◌≤◌, ◌^◌, List, [], ◌∷◌, length, Option, Some, None}
use Rattle.std.specs.List.{All}
use Rattle.sat_terms.specs.Cubes.{IsCube}
use Rattle.sat_terms.specs.Subjects.{IsSubject}
use Rattle.sat_terms.specs.declared.subject.Subject.{Subject}
use Rattle.checkpoint.specs.declared.saved.Saved.{Saved}
use Rattle.region_book.specs.Machine.{BookState, start_from}

-- It has published and pending what was saved; without saved lines the given literals are the one
-- prefix that is pending.
abbrev pub start_of : Subject → Option Saved → BookState
start_of subject None = start_from [] (subject.under ∷ [])
start_of subject (Some saved) = start_from saved.cubes saved.pending

-- What was saved are cubes over the shown variables, and few enough prefixes to be numbered.
pub record AreSavedLines (p : List ℕ) (saved : Saved) : Type 0 where
  pub cubes : All (IsCube p) saved.cubes
  pub pending : All (IsCube p) saved.pending
  pub few : length saved.pending < 2 ^ 32

-- A book may begin with this.
pub record CanBegin (subject : Subject) (saved : Option Saved) (passes : ℕ) : Type 0 where
  pub subject_is : IsSubject subject.formula.variables subject.formula.clauses subject.shown
      subject.under
  pub saved_is : (lines : Saved) → saved ≡ Some lines → AreSavedLines subject.shown lines
  pub some : 1 ≤ passes
  pub most : passes ≤ 16
