-- The names of the cubes of a place, one more at a time.
use Rattle.std.proofs.Common.{◌≡◌, ℕ, zero, suc, ◌+◌, [], ◌∷◌, ◌++◌, length, refl, ap, arith}
use Rattle.cube_merge.specs.Names.{names_from}

pub names_more : (j i n m : ℕ) → m ≡ i + n → names_from j i (suc n) ≡ names_from j i n ++ record { place = j; index = m } ∷ []
names_more j i zero m at = let same : i ≡ m = omega arith in ap (λ x. record { place = j; index = x } ∷ []) same
names_more j i (suc n) m at = ap (λ x. record { place = j; index = i } ∷ x) (names_more j (suc i) n m (omega arith))

pub length-names : (j i n : ℕ) → length (names_from j i n) ≡ n
length-names j i zero = refl
length-names j i (suc n) = ap suc (length-names j (suc i) n)
