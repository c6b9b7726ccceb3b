use Rattle.worker_loop.proofs.Begin.{new_books_hold_nothing}
use Rattle.worker_loop.proofs.laws.new_books_hold_nothing.Goals as goal

pub returns : goal.returns
returns c = new_books_hold_nothing
