use Rattle.std.proofs.Common.{◌≡◌, false}
use Rattle.live_engine.specs.Engines.{open_weight}
use Rattle.worker_loop.specs.Sweeps.{is_spent}
use Rattle.worker_loop.specs.Jobs.{spent_with}
use Rattle.worker_loop.proofs.sweeping.search.Given as goal

abbrev pub invariant-loop-allowance : goal.invariant-loop-allowance
invariant-loop-allowance l = record {
  job : l.engine.job ≡ l.initial.engine.job;
  subject : l.engine.subject ≡ l.initial.engine.subject;
  unspent : is_spent l.allowance (spent_with l.spent l.engine.leaves) ≡ false;
}

abbrev pub decreases-loop-allowance : goal.decreases-loop-allowance
decreases-loop-allowance l = open_weight l.engine
