-- What the workers of a run work with.
use Rattle.std.specs.Prelude.{◌≡◌, None}
use Rattle.sat_terms.specs.declared.subject.Subject.{Subject}
use Rattle.live_engine.specs.Engines.{EngineView}
use Rattle.steal_pool.specs.Benches.{BenchView}
use Rattle.clause_exchange.specs.Posts.{PostView}
use Rattle.region_ledger.specs.Hands.{LedgerView, HandView}
use Rattle.worker_loop.specs.Workers.{IsOffWork}
use Rattle.allsat_run.specs.declared.crew.Tools.{Tools}
use Rattle.allsat_run.specs.declared.crew.Seated.{Seated}

abbrev pub ToolsView : Type 0
ToolsView = Tools EngineView BenchView PostView

-- The engine is one of the subject, without a job.
pub record IsTool (s : Subject) (t : ToolsView) : Type 0 where
  pub same : t.engine.subject ≡ s
  pub idle : t.engine.job ≡ None

-- The worker may begin, or has ended: its engine has no job, and its pass holds nothing.
abbrev pub IsSeated : LedgerView → Seated ToolsView HandView → Type 0
IsSeated l m = IsOffWork l m.pass.number m.pass m.tools.engine
