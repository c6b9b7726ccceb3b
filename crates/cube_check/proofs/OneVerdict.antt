-- A listing has one verdict.
use Rattle.std.proofs.Common.{◌≡◌, ℕ, ◌-◌, ◌<◌, Bool, true, List, [], length, take, get_or, ℤ, refl, sym, ap, ap₂, subst, ◌∙◌, inl, inr, arith}
use Rattle.std.specs.List.{list_all}
use Rattle.std.proofs.lemmas.Bool.{both_ways, cases_order}
use Rattle.std.proofs.lemmas.List.{get_or-take, length-take}
use Rattle.std.proofs.lemmas.List.Sums.{AllPass-from_list_all}
use Rattle.cube_check.specs.declared.met.Met.{Met}
use Rattle.cube_check.specs.declared.verdict.Verdict.{Verdict}
use Rattle.cube_check.specs.declared.verdict.Verdict.TheVariants.{Right, NotMet, Overlap}
use Rattle.cube_check.specs.Verdicts.{IsVerdict, IsFirstMiss, IsFirstOverlap, AnyTwoAreApart, meets, meets_all, met_at}

passes_below : {X : Type 0} (p : X → Bool) (xs : List X) (n i : ℕ) (d : X) → i < n → i < length xs → list_all p (take n xs) ≡ true → p (get_or xs i d) ≡ true
passes_below p xs n i d below inside all =
    let low : i < length (take n xs) = omega (arith, length-take n xs) in
    ap p (sym (get_or-take n xs i d below)) ∙ AllPass-from_list_all p (take n xs) all i d low

-- a cube that meets all misses none
no_miss : (f : List (List ℤ)) (met : List Met) (i j : ℕ) → IsFirstMiss f met i j → meets_all f (met_at met i) ≡ true → ⊥
no_miss f met i j miss all = both_ways _ miss.missed (AllPass-from_list_all (meets (met_at met i)) f all j [] miss.clause)

no_miss_at_all : (f : List (List ℤ)) (met : List Met) (i j : ℕ) → IsFirstMiss f met i j → list_all (meets_all f) met ≡ true → ⊥
no_miss_at_all f met i j miss all = no_miss f met i j miss (AllPass-from_list_all (meets_all f) met all i _ miss.cube)

lower_cube : (f : List (List ℤ)) (met : List Met) (i j h k : ℕ) → IsFirstMiss f met i j → IsFirstMiss f met h k → i < h → ⊥
lower_cube f met i j h k one other less = no_miss f met i j one (passes_below (meets_all f) met h i _ less one.cube other.lower_cubes)

lower_clause : (f : List (List ℤ)) (met : List Met) (i j k : ℕ) → IsFirstMiss f met i j → IsFirstMiss f met i k → j < k → ⊥
lower_clause f met i j k one other less = both_ways _ one.missed (passes_below (meets (met_at met i)) f k j [] less one.clause other.lower_clauses)

lower_first : (met : List Met) (i j h k : ℕ) → IsFirstOverlap met i j → IsFirstOverlap met h k → i < h → ⊥
lower_first met i j h k one other less = both_ways _ one.overlap (other.lower_first i j less one.behind one.inside)

lower_second : (met : List Met) (i j k : ℕ) → IsFirstOverlap met i j → IsFirstOverlap met i k → j < k → ⊥
lower_second met i j k one other less = both_ways _ one.overlap (other.lower_second j one.behind less)

settled : (a b : ℕ) → (a < b → ⊥) → (b < a → ⊥) → a ≡ b
settled a b p q = elim (cases_order a b) [
  | inl same ↦ same
  | inr apart ↦ elim apart [ inl less ↦ absurd (p less) | inr less ↦ absurd (q less) ]
]

one_miss : (f : List (List ℤ)) (met : List Met) (i j h k : ℕ) → IsFirstMiss f met i j → IsFirstMiss f met h k → i ≡ h → j ≡ k
one_miss f met i j h k one other same =
    let P : ℕ → Type 0 = λ x. IsFirstMiss f met x k in
    let moved : IsFirstMiss f met i k = subst P (sym same) other in
    settled j k (lower_clause f met i j k one moved) (lower_clause f met i k j moved one)

one_overlap : (met : List Met) (i j h k : ℕ) → IsFirstOverlap met i j → IsFirstOverlap met h k → i ≡ h → j ≡ k
one_overlap met i j h k one other same =
    let P : ℕ → Type 0 = λ x. IsFirstOverlap met x k in
    let moved : IsFirstOverlap met i k = subst P (sym same) other in
    settled j k (lower_second met i j k one moved) (lower_second met i k j moved one)

no_overlap : (met : List Met) (i j : ℕ) → IsFirstOverlap met i j → AnyTwoAreApart met → ⊥
no_overlap met i j one all = both_ways _ one.overlap (all i j one.behind one.inside)

pub one_verdict : (f : List (List ℤ)) (met : List Met) (v w : Verdict) → IsVerdict f met v → IsVerdict f met w → v ≡ w
one_verdict f met Right Right h k = refl
one_verdict f met Right (NotMet i j) h k = absurd (no_miss_at_all f met (i - 1) (j - 1) k.2 h.0)
one_verdict f met Right (Overlap i j) h k = absurd (no_overlap met (i - 1) (j - 1) k.2 h.1)
one_verdict f met (NotMet i j) Right h k = absurd (no_miss_at_all f met (i - 1) (j - 1) h.2 k.0)
one_verdict f met (NotMet i j) (Overlap g l) h k = absurd (no_miss_at_all f met (i - 1) (j - 1) h.2 k.0)
one_verdict f met (NotMet i j) (NotMet g l) h k =
    let first : i - 1 ≡ g - 1 = settled (i - 1) (g - 1) (lower_cube f met (i - 1) (j - 1) (g - 1) (l - 1) h.2 k.2) (lower_cube f met (g - 1) (l - 1) (i - 1) (j - 1) k.2 h.2) in
    let second : j - 1 ≡ l - 1 = one_miss f met (i - 1) (j - 1) (g - 1) (l - 1) h.2 k.2 first in
    let low_i : 0 < i = h.0 in let low_j : 0 < j = h.1 in let low_g : 0 < g = k.0 in let low_l : 0 < l = k.1 in
    let same_i : i ≡ g = omega arith in
    let same_j : j ≡ l = omega arith in
    ap₂ (λ x y. NotMet x y) same_i same_j
one_verdict f met (Overlap i j) Right h k = absurd (no_overlap met (i - 1) (j - 1) h.2 k.1)
one_verdict f met (Overlap i j) (NotMet g l) h k = absurd (no_miss_at_all f met (g - 1) (l - 1) k.2 h.0)
one_verdict f met (Overlap i j) (Overlap g l) h k =
    let first : i - 1 ≡ g - 1 = settled (i - 1) (g - 1) (lower_first met (i - 1) (j - 1) (g - 1) (l - 1) h.2 k.2) (lower_first met (g - 1) (l - 1) (i - 1) (j - 1) k.2 h.2) in
    let second : j - 1 ≡ l - 1 = one_overlap met (i - 1) (j - 1) (g - 1) (l - 1) h.2 k.2 first in
    let behind_j : i - 1 < j - 1 = h.2.behind in let behind_l : g - 1 < l - 1 = k.2.behind in
    let low_i : 0 < i = h.1 in let low_g : 0 < g = k.1 in
    let same_i : i ≡ g = omega arith in
    let same_j : j ≡ l = omega arith in
    ap₂ (λ x y. Overlap x y) same_i same_j
