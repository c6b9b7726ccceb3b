use Rattle.std.proofs.Common.{◌≡◌, None}
use Rattle.allsat_run.proofs.pieces.search_all.Given as goal

abbrev pub invariant-loop : goal.invariant-loop
invariant-loop g l = record {
  idle : l.engine.job ≡ None;
  shown : l.engine.subject.shown ≡ l.shown;
}
