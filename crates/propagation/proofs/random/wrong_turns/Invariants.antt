use Rattle.std.proofs.Common.{◌≡◌}
use Rattle.std.specs.List.{All}
use Rattle.sat_terms.specs.Literals.{IsLiteralOf}
use Rattle.propagation.specs.Settled.{IsSettled}
use Rattle.propagation.proofs.random.wrong_turns.Given as goal

abbrev pub invariant-loop : goal.invariant-loop
invariant-loop l = record {
  six : l.trail.variables ≡ 6;
  own : l.propagator.variables ≡ 6;
  clauses : All (All (IsLiteralOf 6)) l.arena.clauses;
  settled : IsSettled l.arena.clauses l.propagator l.trail;
}
