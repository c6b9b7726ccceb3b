use Rattle.worker_loop.specs.Workers.{IsAtWork}
use Rattle.worker_loop.proofs.worker.do_job.Given as goal

abbrev pub invariant-loop : goal.invariant-loop
invariant-loop g l = IsAtWork l.ledger l.initial.pass.number l.number l.pass l.engine
