-- What a look at each two neighbours tells.
use Rattle.std.proofs.Common.{◌≡◌, ℕ, zero, suc, Bool, true, false, not, is_lt, List, [], ◌∷◌, ◌++◌, length, take, ◌-◌, ℤ, Some, None, get_or, refl, sym, ap, ◌∙◌, arith}
use Rattle.std.specs.Bool.{OnTrue}
use Rattle.std.specs.List.{IsAllAdjacentAnswer, slice_get}
use Rattle.std.specs.List.Sorted.{IsSorted}
use Rattle.std.proofs.lemmas.Bool.{both_ways}
use Rattle.std.proofs.lemmas.Option.{slice_get-get_or}
use Rattle.cube_merge.specs.Names.{name_order}

not_above : (b : Bool) → true ≡ not b → b ≡ false
not_above true h = absurd (both_ways false (let e : false ≡ true = (let k : true ≡ false = h in cc) in cc) (let k : true ≡ false = h in cc))
not_above false h = refl

pub sorted_from_answer : {N : Type 0} (cube_of : N → List ℤ) (names : List N) (r : Bool) → IsAllAdjacentAnswer (λ x y b. b ≡ not (is_lt (name_order cube_of y x))) names r → OnTrue r (IsSorted (name_order cube_of) names)
sorted_from_answer cube_of names true all = λ k d low high. not_above _ (all k d high)
sorted_from_answer cube_of names false all = tt

-- the last of a list
ends_at : {X : Type 0} (xs : List X) (n : ℕ) (x : X) → length xs ≡ suc n → slice_get xs n ≡ Some x → xs ≡ take n xs ++ x ∷ []
ends_at [] n x long h = absurd (let bad : None ≡ Some x = h in cc)
ends_at (y ∷ []) zero x long h = let same : y ≡ x = (let e : Some y ≡ Some x = h in cc) in ap (λ z. z ∷ []) same
ends_at (y ∷ z ∷ xs) zero x long h = absurd (omega arith)
ends_at (y ∷ xs) (suc n) x long h = ap (λ rest. y ∷ rest) (ends_at xs n x (omega arith) h)

pub ends_with_last : {X : Type 0} (xs : List X) (x : X) → slice_get xs (length xs - 1) ≡ Some x → xs ≡ take (length xs - 1) xs ++ x ∷ []
ends_with_last [] x h = absurd (let bad : None ≡ Some x = h in cc)
ends_with_last (y ∷ xs) x h = ends_at (y ∷ xs) (length (y ∷ xs) - 1) x (omega arith) h

pub has_no_last : {X : Type 0} (xs : List X) → slice_get xs (length xs - 1) ≡ None → xs ≡ []
has_no_last [] h = refl
has_no_last (y ∷ xs) h = absurd (let bad : Some (get_or (y ∷ xs) (length (y ∷ xs) - 1) y) ≡ None = sym (slice_get-get_or (y ∷ xs) (length (y ∷ xs) - 1) y (omega arith)) ∙ h in cc)
