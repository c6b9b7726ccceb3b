use Rattle.std.proofs.Common.{◌≡◌, ◌≢◌, None}
use Rattle.allsat_run.proofs.pieces.search.Given as goal

abbrev pub invariant-loop : goal.invariant-loop
invariant-loop l = record {
  runs : l.engine.job ≢ None;
  subject : l.engine.subject ≡ l.initial.engine.subject;
}
