use Rattle.std.proofs.Common.{All}
use Rattle.sat_terms.specs.Literals.{IsLiteral}
use Rattle.plain_search.proofs.tests.clause.Given as goal

abbrev pub invariant-loop-lit : goal.invariant-loop-lit
invariant-loop-lit l = All IsLiteral l.kept.items
