-- What the calls of one job do to the book.
use Rattle.std.specs.Prelude.{◌≡◌, ◌⊎◌, ℕ, ◌+◌, ◌<◌, ◌≤◌, ◌^◌, min, List, [], length, ℤ, Option, Some, None}
use Rattle.std.specs.List.{find}
use Rattle.sat_terms.specs.Cubes.{IsCube}
use Rattle.search_job.specs.Weights.{weights}
use Rattle.prefix_jobs.specs.declared.number.Number.{Number}
use Rattle.region_book.specs.Machine.{Pending}
use Rattle.region_book.specs.Machine.{is_held_by, edit_first, taken_out, prefixes_of}
use Rattle.region_book.specs.Pages.{prefix_of}
use Rattle.region_book.specs.Books.{BookView, state_of}
use Rattle.live_engine.specs.Engines.{EngineView, open_cubes}
use Rattle.worker_loop.specs.Sweeps.{AreUnheld, GrowsFrom}

-- So much is spent, once these leaves are reported too.
abbrev pub spent_with : ℕ → ℕ → ℕ
spent_with spent leaves = min (spent + leaves) (2 ^ 62)

-- How many projected assignments lie in the prefixes that are pending.
abbrev pub pending_weight : BookView → ℕ
pending_weight b = weights (length b.subject.shown) (prefixes_of (state_of b).pending)

-- The pass k holds the prefix c under the number n, and nobody holds another prefix.
pub record HoldsOnly (k : ℕ) (n : Number) (c : List ℤ) (ps : List Pending) : Type 0 where
  pub held : prefix_of (find (is_held_by k n) ps) ≡ Some c
  pub others : AreUnheld (edit_first (is_held_by k n) taken_out ps)

-- The engine searches the one prefix that is held, which the pass 0 holds under the number n.
pub record IsInJob (book : BookView) (engine : EngineView) (n : Number) : Type 0 where
  pub prefix : List ℤ
  pub holds : HoldsOnly 0 n prefix (state_of book).pending
  pub job : engine.job ≡ Some prefix
  pub same : engine.subject ≡ book.subject

-- The pass 0 took this prefix, which is now the one that is held; or none was pending.
pub record TookPrefix (old new : BookView) (n : Number) (c : List ℤ) : Type 0 where
  pub holds : HoldsOnly 0 n c (state_of new).pending
  pub cube : IsCube new.subject.shown c
  pub pass : 1 ≤ new.passes
  pub weight : pending_weight new ≡ pending_weight old
  pub spent : (state_of new).spent ≡ (state_of old).spent
  pub grows : GrowsFrom old new

abbrev pub TakesOne : BookView → BookView → Option (Number × List ℤ) → Type 0
TakesOne old new (Some (n, c)) = TookPrefix old new n c
TakesOne old new None = (new ≡ old) × ((state_of old).pending ≡ [])

-- A job that left nothing open, or had a leaf.
abbrev pub HasCome : EngineView → Type 0
HasCome job = (open_cubes job ≡ []) ⊎ (1 ≤ job.leaves)

-- What the job of this engine came to is reported. Where it has come anywhere, less is pending.
pub record HandsOver (old new : BookView) (job : EngineView) : Type 0 where
  pub spent : (state_of new).spent ≡ spent_with (state_of old).spent job.leaves
  pub less : HasCome job → pending_weight new < pending_weight old
