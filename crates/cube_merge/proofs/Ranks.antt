-- The order of cubes ranks their names.
use Rattle.std.proofs.Common.{List, ℤ, map, is_lt}
use Rattle.std.specs.Cmp.{IsStrictWeakOrder}
use Rattle.std.specs.Cmp.Lexicographic.{nat_list_cmp_total}
use Rattle.std.proofs.lemmas.List.Sorted.{ranks_by}
use Rattle.sat_terms.specs.CubeOrder.{key}
use Rattle.cube_merge.specs.Names.{name_order}

pub names_rank : {N : Type 0} (cube_of : N → List ℤ) → IsStrictWeakOrder (λ a b. is_lt (name_order cube_of a b))
names_rank cube_of = ranks_by nat_list_cmp_total (λ a. map key (cube_of a))
