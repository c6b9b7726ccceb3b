-- The order of cubes.
use Rattle.std.specs.Prelude.{ℕ, suc, ◌+◌, ◌*◌, List, map, ℤ, pos, negsuc}
use Rattle.std.specs.declared.cmp.Ordering.{Ordering}
use Rattle.std.specs.Ordering.{nat_cmp}
use Rattle.std.specs.Cmp.Lexicographic.{slice_cmp}

-- The key of the literal -v is 2v, that of v is 2v + 1.
abbrev pub key : ℤ → ℕ
key (pos n) = 2 * n + 1
key (negsuc n) = 2 * suc n

-- Cubes are compared by the keys of their literals at the first difference; a proper prefix stands
-- before the longer list.
abbrev pub cube_order : List ℤ → List ℤ → Ordering
cube_order c d = slice_cmp nat_cmp (map key c) (map key d)
