-- What a worker needs, what it keeps, and what it answers.
use Rattle.std.specs.Prelude.{◌≡◌, ◌≢◌, ◌⊎◌, ℕ, ◌≤◌, true, List, [], ◌∷◌, length, ℤ, Option, Some, None}
use Rattle.sat_terms.specs.Cubes.{IsCube}
use Rattle.prefix_jobs.specs.declared.number.Number.{Number}
use Rattle.prefix_jobs.specs.declared.number.Token.{Token}
use Rattle.region_book.specs.Machine.{Pending}
use Rattle.region_ledger.specs.Hands.{LedgerView, HandView, IsHandOf, subject_of, seen_state, held, holding}
use Rattle.live_engine.specs.Engines.{EngineView}
use Rattle.steal_pool.specs.Benches.{BenchView, bench_with_put}
use Rattle.worker_loop.specs.Sweeps.{is_spent}
use Rattle.worker_loop.specs.declared.worked.Worked.{Worked}
use Rattle.worker_loop.specs.declared.worked.Worked.TheVariants.{Finished, BudgetSpent, OutOfMemory}
use Rattle.worker_loop.specs.declared.next.Next.{Next}
use Rattle.worker_loop.specs.declared.next.Next.TheVariants.{Job, Hungry, Ends}

-- The pass is one of the ledger, has the number k, and holds just this.
pub record HasInHand (l : LedgerView) (k : ℕ) (hs : List Pending) (p : HandView) : Type 0 where
  pub hand : IsHandOf l p
  pub number : p.number ≡ k
  pub held : held l p ≡ hs

-- The engine has a job, and the pass k holds just its prefix, under the number n.
pub record IsAtWork (l : LedgerView) (k : ℕ) (n : Number) (p : HandView) (e : EngineView)
    : Type 0 where
  pub pass : HasInHand l k (holding k n e.job) p
  pub same : e.subject ≡ subject_of l
  pub job : e.job ≢ None

-- The engine has no job, and the pass k holds nothing.
pub record IsOffWork (l : LedgerView) (k : ℕ) (p : HandView) (e : EngineView) : Type 0 where
  pub pass : HasInHand l k [] p
  pub same : e.subject ≡ subject_of l
  pub idle : e.job ≡ None

-- What a worker may say at its end: that it has finished only where nothing is pending in what its
-- pass has seen, and that the budget is spent only where that many leaves were reported there.
abbrev pub EndsWork : LedgerView → Option ℕ → HandView → Worked → Type 0
EndsWork l budget p Finished = (seen_state l p).pending ≡ []
EndsWork l budget p BudgetSpent = is_spent budget (seen_state l p).spent ≡ true
EndsWork l budget p (OutOfMemory e) = Unit {0}

abbrev pub EndsOrNot : LedgerView → Option ℕ → HandView → Option Worked → Type 0
EndsOrNot l budget p None = Unit {0}
EndsOrNot l budget p (Some worked) = EndsWork l budget p worked

-- What the pass k holds where this is next.
abbrev pub held_next : ℕ → Next → List Pending
held_next k (Job n c) = holding k n (Some c)
held_next k Hungry = []
held_next k (Ends worked) = []

abbrev pub IsNextFor : LedgerView → Option ℕ → HandView → Next → Type 0
IsNextFor l budget p (Job n c) = IsCube (subject_of l).shown c
IsNextFor l budget p Hungry = Unit {0}
IsNextFor l budget p (Ends worked) = EndsWork l budget p worked

-- The token of the first prefix that the report at this place gave away.
abbrev pub given_token : ℕ → Token
given_token place = record { number = record { place = place; index = 0 } }

-- That token was put on the bench, or there was no room for it.
abbrev pub LeavesToken : ℕ → BenchView → BenchView → Type 0
LeavesToken place old new =
    (new ≡ bench_with_put old (given_token place))
    ⊎ ((new ≡ old) × (old.sure ≤ length old.hand.put))

-- The number of the prefix that this report kept, behind the one that it gave away.
abbrev pub kept_behind : ℕ → Number
kept_behind place = record { place = place; index = 1 }

-- Where nothing was untried nothing is given, and the number stays. Else the lowest untried prefix
-- was given away by the report at this place, its token is left, and the job goes on under the
-- number of the prefix that it kept.
abbrev pub SharesUnder : List (List ℤ) → ℕ → Number → Number → BenchView → BenchView → Type 0
SharesUnder [] place n kept old new = (kept ≡ n) × (new ≡ old)
SharesUnder (given ∷ others) place n kept old new =
    (kept ≡ kept_behind place) × LeavesToken place old new
