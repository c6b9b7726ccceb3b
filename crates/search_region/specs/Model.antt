-- What a found model is: the shown items that its cube needs, and the cube.
use Rattle.std.specs.Prelude.{◌≡◌, ℕ, Bool, true, not, ◌&&◌, ◌||◌, ℤ, nat_abs, List, nat_eq, nat_le, nat_lt}
use Rattle.std.specs.List.{list_all, list_any}
use Rattle.std.specs.Ordering.{int_eq}
use Rattle.sat_terms.specs.Truth.{holds}
use Rattle.sat_terms.specs.Cubes.{has_pair}
use Rattle.search_region.specs.Trail.{Item, is_flipped, seen, seen_upto, agrees}
use Rattle.search_region.specs.Cubes.{over}

-- The literal is that of a hidden item, or of a shown one of level at most b.
abbrev pub is_kept : (ℕ → Bool) → ℕ → List Item → ℤ → Bool
is_kept shown b trail l =
    list_any (λ i. int_eq l i.lit && (not (seen shown i) || nat_le i.level b)) trail

-- The clause is met by the hidden items and the shown ones of level at most b, or by any
-- assignment.
abbrev pub is_met : (ℕ → Bool) → ℕ → List Item → List ℤ → Bool
is_met shown b trail c = has_pair c || list_any (is_kept shown b trail) c

-- Each shown flipped item is of level at most b.
abbrev pub keeps_flips : (ℕ → Bool) → ℕ → List Item → Bool
keeps_flips shown b trail =
    list_all (λ i. not (is_flipped i.kind && seen shown i) || nat_le i.level b) trail

-- Some shown item is of level b.
abbrev pub reaches : (ℕ → Bool) → ℕ → List Item → Bool
reaches shown b trail = list_any (λ i. seen shown i && nat_eq i.level b) trail

-- The literals of the formula are of variables from 1 on.
abbrev pub are_named : List (List ℤ) → Bool
are_named f = list_all (list_all (λ l. nat_lt 0 (nat_abs l))) f

-- The cube holds just what the shown items of level at most b say.
pub record CubeOf (shown : ℕ → Bool) (b : ℕ) (trail : List Item) (c : List ℤ) : Type 0 where
  pub over_shown : over shown c ≡ true
  pub says : (t : ℕ → Bool) → holds t c ≡ agrees (seen_upto shown b) t trail
