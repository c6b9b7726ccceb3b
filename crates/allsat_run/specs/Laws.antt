-- A run that stopped, and the one that goes on from its text.
use Rattle.std.specs.Prelude.{◌≡◌, ◌≢◌, ◌≤◌, ◌^◌, [], length, Some, Ok}
use Rattle.dimacs_front.specs.declared.input.Input.{Input}
use Rattle.dimacs_front.specs.SavedLaws.{saved_input}
use Rattle.dimacs_front.specs.Whole.{reads}
use Rattle.region_book.specs.Arranged.{ArrangedView}
use Rattle.region_book.specs.Laws.{BeginsWhole}
use Rattle.region_book.specs.Machine.{prefixes_of}
use Rattle.allsat_run.specs.Run.{IsBookOf, book_text}

-- The text of the book says the subject, what is published and what is pending, and a book can
-- begin from these, which are a partition.
pub record SaysAgain (input : Input) (a : ArrangedView) : Type 0 where
  pub again : reads (book_text a)
      ≡ Ok (saved_input input.subject a.published (prefixes_of a.pending))
  pub whole : BeginsWhole input.subject
      (Some (record { cubes = a.published; pending = prefixes_of a.pending }))

-- So it is where a run stopped on an input that begins with a partition, unless the text is too
-- long to be read. The run on it that finishes writes a right list of the same subject, and any two
-- right lists hold the same assignments.
abbrev pub StoppedRunGoesOn : Type 0
StoppedRunGoesOn =
    (input : Input) (a : ArrangedView) → IsBookOf input a →
    BeginsWhole input.subject input.saved → a.pending ≢ [] →
    length (book_text a) ≤ 2 ^ 30 → SaysAgain input a
