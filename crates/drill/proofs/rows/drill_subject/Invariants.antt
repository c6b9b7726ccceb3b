use Rattle.std.proofs.Common.{◌≡◌}
use Rattle.drill.specs.Drills.{drill_rows, first_variables}
use Rattle.drill.proofs.rows.drill_subject.Given as goal

abbrev pub invariant-loop-below : goal.invariant-loop-below
invariant-loop-below l = record {
  rows : l.clauses.items ≡ drill_rows l.size l.below;
  variables : l.shown.items ≡ first_variables l.below;
}
