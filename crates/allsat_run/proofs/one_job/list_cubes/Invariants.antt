use Rattle.std.proofs.Common.{◌≡◌, Some}
use Rattle.live_engine.specs.Engines.{open_weight}
use Rattle.allsat_run.proofs.one_job.list_cubes.Given as goal

abbrev pub invariant-loop-engine : goal.invariant-loop-engine
invariant-loop-engine l = record {
  subject : l.engine.subject ≡ l.subject;
  job : l.engine.job ≡ Some l.subject.under;
}

abbrev pub decreases-loop-engine : goal.decreases-loop-engine
decreases-loop-engine l = open_weight l.engine
