use Rattle.std.proofs.Common.{◌≡◌, ℕ, ◌+◌, ◌≤◌, false, length, get_or, take}
use Rattle.sat_terms.specs.Cubes.{is_among}
use Rattle.projected_decide.proofs.making.marks_of.Given as goal

abbrev pub invariant-loop-variable : goal.invariant-loop-variable
invariant-loop-variable l = record {
  places : length l.marks.items ≡ l.variables + 1;
  marks : (v : ℕ) → v ≤ l.variables → get_or l.marks.items v false ≡ is_among (take l.variable-index l.shown) v;
}
