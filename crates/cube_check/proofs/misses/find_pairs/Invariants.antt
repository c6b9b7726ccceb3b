use Rattle.std.proofs.Common.{◌≡◌, map, take}
use Rattle.sat_terms.specs.Cubes.{has_pair}
use Rattle.cube_check.proofs.misses.find_pairs.Given as goal

abbrev pub invariant-loop-clause : goal.invariant-loop-clause
invariant-loop-clause l = record {
  found : l.pairs.items ≡ map has_pair (take l.clause-index l.clause-items);
  variables : l.finder ≡ l.formula.variables;
}
