use Rattle.std.proofs.Common.{◌≡◌, None}
use Rattle.worker_loop.proofs.fetching.fetch_lemmas.Given as goal

abbrev pub invariant-loop : goal.invariant-loop
invariant-loop g l = record {
  idle : l.engine.job ≡ None;
  same : l.engine.subject ≡ l.initial.engine.subject;
}
