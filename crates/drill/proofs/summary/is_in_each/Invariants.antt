use Rattle.std.proofs.Common.{◌≡◌, true, take}
use Rattle.std.specs.List.{list_all}
use Rattle.sat_terms.specs.Cubes.{has_literal}
use Rattle.drill.proofs.summary.is_in_each.Given as goal

abbrev pub invariant-loop-i : goal.invariant-loop-i
invariant-loop-i g l = list_all (λ d. has_literal d l.lit) (take l.i (g.L.CubeList.cubes l.cubes)) ≡ true
