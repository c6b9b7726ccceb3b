use Rattle.worker_loop.specs.Workers.{IsOffWork}
use Rattle.worker_loop.proofs.worker.do_jobs.Given as goal

abbrev pub invariant-loop : goal.invariant-loop
invariant-loop g l = IsOffWork l.ledger l.initial.pass.number l.pass l.engine
