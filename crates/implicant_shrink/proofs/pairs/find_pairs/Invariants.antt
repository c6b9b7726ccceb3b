use Rattle.std.proofs.Common.{◌≡◌, map, take}
use Rattle.sat_terms.specs.Cubes.{has_pair}
use Rattle.implicant_shrink.proofs.pairs.find_pairs.Given as goal

abbrev pub invariant-loop-id : goal.invariant-loop-id
invariant-loop-id l = record {
  found : l.pairs.items ≡ map has_pair (take l.id l.arena.clauses);
  variables : l.finder ≡ l.variables;
}
