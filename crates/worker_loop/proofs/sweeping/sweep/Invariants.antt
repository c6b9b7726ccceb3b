use Rattle.std.proofs.Common.{◌≡◌, true}
use Rattle.region_book.specs.Books.{state_of}
use Rattle.worker_loop.specs.Sweeps.{is_spent, IsAllowed, IsBetweenJobs, GrowsFrom}
use Rattle.worker_loop.specs.Jobs.{pending_weight}
use Rattle.worker_loop.proofs.sweeping.sweep.Given as goal

abbrev pub invariant-loop-allowance : goal.invariant-loop-allowance
invariant-loop-allowance l = record {
  rests : IsBetweenJobs l.book l.engine;
  grows : GrowsFrom l.initial.book l.book;
  untouched : is_spent l.allowance (state_of l.initial.book).spent ≡ true → l.book ≡ l.initial.book;
  allowed : IsAllowed l.allowance (state_of l.initial.book).spent → IsAllowed l.allowance (state_of l.book).spent;
}

abbrev pub decreases-loop-allowance : goal.decreases-loop-allowance
decreases-loop-allowance l = pending_weight l.book
