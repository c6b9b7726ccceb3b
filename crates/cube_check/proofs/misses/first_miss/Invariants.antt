use Rattle.std.proofs.Common.{◌≡◌, ◌*◌, ◌+◌, take, true, length}
use Rattle.std.specs.List.{list_all}
use Rattle.cube_check.specs.Verdicts.{meets_all}
use Rattle.cube_check.proofs.misses.first_miss.Given as goal

abbrev pub invariant-loop-cube : goal.invariant-loop-cube
invariant-loop-cube l = record {
  lower : list_all (meets_all l.formula.clauses) (take l.cube l.met) ≡ true;
  places : length l.marks.stamps ≡ 2 * (l.formula.variables + 1);
}
