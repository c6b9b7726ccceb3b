use Rattle.std.proofs.Common.{◌≡◌, ◌+◌, ◌≤◌, ◌++◌, length, filter, not, vec_capacity}
use Rattle.sat_terms.specs.Cubes.{within}
use Rattle.live_engine.proofs.giving.part.Given as goal

abbrev pub invariant-loop-cube : goal.invariant-loop-cube
invariant-loop-cube l = record {
  stays : l.found.items ++ filter (λ c. within c l.prefix) l.cube-iterator.rest.items ≡ filter (λ c. within c l.prefix) l.fn.found.items;
  goes : l.out.items ++ filter (λ c. not (within c l.prefix)) l.cube-iterator.rest.items ≡ filter (λ c. not (within c l.prefix)) l.fn.found.items;
  room : length l.found.items + length l.cube-iterator.rest.items ≤ vec_capacity l.found;
  room_out : length l.out.items + length l.cube-iterator.rest.items ≤ vec_capacity l.out;
}
