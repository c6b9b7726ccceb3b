-- The order of two cubes is that of what stands behind the literals that both begin with.
use Rattle.std.proofs.Common.{◌≡◌, ℕ, zero, suc, ◌≤◌, List, [], ◌∷◌, length, take, drop, ℤ, refl, sym, ap, ◌∙◌, arith}
use Rattle.std.specs.Ordering.{nat_cmp, ordering_then}
use Rattle.std.specs.Cmp.{nat_cmp_is}
use Rattle.std.specs.declared.cmp.Ordering.TheVariants.{Equal}
use Rattle.sat_terms.specs.CubeOrder.{key, cube_order}

nat_cmp_same : (n : ℕ) → nat_cmp n n ≡ Equal
nat_cmp_same n = sym (nat_cmp_is n n Equal refl)

pub past_front : (k : ℕ) (c d : List ℤ) → k ≤ length c → k ≤ length d → take k c ≡ take k d → cube_order (drop k c) (drop k d) ≡ cube_order c d
past_front zero c d low within same = refl
past_front (suc k) [] d low within same = absurd (omega arith)
past_front (suc k) (x ∷ c) [] low within same = absurd (omega arith)
past_front (suc k) (x ∷ c) (y ∷ d) low within same =
    let head : x ≡ y = cc in
    let rest : take k c ≡ take k d = cc in
    past_front k c d (omega arith) (omega arith) rest
    ∙ sym (ap (λ o. ordering_then o (cube_order c d)) (ap (λ z. nat_cmp (key x) (key z)) (sym head) ∙ nat_cmp_same (key x)))
