use Rattle.std.proofs.Common.{◌≡◌, ◌≤◌, drop, filter}
use Rattle.live_engine.specs.Engines.{may_be_sent}
use Rattle.live_engine.proofs.importing.first_short.Given as goal

abbrev pub invariant-loop-id : goal.invariant-loop-id
invariant-loop-id l = record {
  behind : l.from ≤ l.id;
  left : filter may_be_sent (drop l.from l.arena.clauses) ≡ filter may_be_sent (drop l.id l.arena.clauses);
}
