use Rattle.std.proofs.Common.{◌≡◌, ◌≤◌, length, All}
use Rattle.sat_terms.specs.Literals.{IsLiteralOf}
use Rattle.worker_loop.proofs.examples.formula_of.Given as goal

abbrev pub invariant-loop-lits : goal.invariant-loop-lits
invariant-loop-lits g l = record {
  count : length l.list.items ≡ l.lits-index;
  short : All (λ c. length c ≤ 1000) l.list.items;
  named : All (All (IsLiteralOf l.variables)) l.list.items;
}
