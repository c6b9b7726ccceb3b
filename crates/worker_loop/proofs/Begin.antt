-- A book without events holds nothing.
use Rattle.std.proofs.Common.{[], ◌∷◌, Some, None}
use Rattle.worker_loop.specs.Laws.{NewBooksHoldNothing}
use Rattle.worker_loop.proofs.Held.{numbered_unheld}

pub new_books_hold_nothing : NewBooksHoldNothing
new_books_hold_nothing subject None = numbered_unheld 0 0 (subject.under ∷ [])
new_books_hold_nothing subject (Some lines) = numbered_unheld 0 0 lines.pending
