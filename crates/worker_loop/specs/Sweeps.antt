-- What a sweep needs, what it keeps, and what it answers.
use Rattle.std.specs.Prelude.{◌≡◌, ◌≢◌, ℕ, ◌≤◌, Bool, true, false, nat_le, List, [], ◌++◌, Option, Some, None}
use Rattle.std.specs.List.{All}
use Rattle.region_book.specs.declared.event.Event.{Event}
use Rattle.region_book.specs.Machine.{Pending}
use Rattle.region_book.specs.Books.{BookView, state_of}
use Rattle.live_engine.specs.Engines.{EngineView}
use Rattle.worker_loop.specs.declared.sweeping.Swept.{Swept}
use Rattle.worker_loop.specs.declared.sweeping.Swept.TheVariants.{Finished, BudgetSpent}

-- Nobody holds any of these prefixes.
abbrev pub AreUnheld : List Pending → Type 0
AreUnheld ps = All (λ q. q.holder ≡ None) ps

-- Where a sweep begins and ends: no prefix is held, and the engine has no job and is of the book's
-- subject.
pub record IsBetweenJobs (book : BookView) (engine : EngineView) : Type 0 where
  pub unheld : AreUnheld (state_of book).pending
  pub idle : engine.job ≡ None
  pub same : engine.subject ≡ book.subject

-- The book is of what it was, and its journal goes on from the journal before.
pub record GrowsFrom (old new : BookView) : Type 0 where
  pub subject : new.subject ≡ old.subject
  pub saved : new.saved ≡ old.saved
  pub passes : new.passes ≡ old.passes
  pub more : List Event
  pub journal : new.journal ≡ old.journal ++ more

-- The leaves of an allowance are spent. Where none is given they never are.
abbrev pub is_spent : Option ℕ → ℕ → Bool
is_spent None spent = false
is_spent (Some allowance) spent = nat_le allowance spent

-- No more is spent than is allowed.
abbrev pub IsAllowed : Option ℕ → ℕ → Type 0
IsAllowed None spent = Unit {0}
IsAllowed (Some allowance) spent = spent ≤ allowance

-- A sweep has finished exactly where nothing is pending; else the allowance is spent.
abbrev pub EndsSweep : Option ℕ → BookView → Swept → Type 0
EndsSweep allowance book Finished = (state_of book).pending ≡ []
EndsSweep allowance book BudgetSpent =
    ((state_of book).pending ≢ []) × (is_spent allowance (state_of book).spent ≡ true)
