-- The laws of sweeps.
use Rattle.std.specs.Prelude.{[], Option}
use Rattle.sat_terms.specs.declared.subject.Subject.{Subject}
use Rattle.checkpoint.specs.declared.saved.Saved.{Saved}
use Rattle.region_book.specs.Books.{replay}
use Rattle.worker_loop.specs.Sweeps.{AreUnheld}

-- A book without events holds nothing.
abbrev pub NewBooksHoldNothing : Type 0
NewBooksHoldNothing =
    (subject : Subject) (saved : Option Saved) → AreUnheld (replay subject saved []).pending
