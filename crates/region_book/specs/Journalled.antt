-- What turns at a book see of it.
use Rattle.std.specs.Prelude.{ℕ, List, Option}
use Rattle.sat_terms.specs.declared.subject.Subject.{Subject}
use Rattle.checkpoint.specs.declared.saved.Saved.{Saved}
use Rattle.region_book.specs.declared.event.Event.{Event}
use Rattle.region_book.specs.Books.{BookView}

-- What no event changes: the subject, what was saved of it, and the number of passes.
abbrev pub BookBasis : Type 0
BookBasis = Subject × Option Saved × ℕ

abbrev pub basis_of : BookView → BookBasis
basis_of b = (b.subject, b.saved, b.passes)

abbrev pub journal_of : BookView → List Event
journal_of b = b.journal
