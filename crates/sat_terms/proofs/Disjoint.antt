-- Cubes are apart exactly where no assignment lies in both.
use Rattle.std.proofs.Common.{◌≡◌, ℕ, zero, suc, ◌<◌, Bool, true, false, not, ◌&&◌, ◌||◌, List, [], ◌∷◌, map, refl, sym, ◌∙◌, ap, subst, arith, inl, inr}
use Rattle.std.specs.Prelude.{ℤ, pos, negsuc, neg_ℤ, nat_abs, nat_eq}
use Rattle.std.specs.List.{list_all}
use Rattle.std.specs.Ordering.{int_eq}
use Rattle.std.proofs.lemmas.Bool.{and_parts, and_from, eqb-true, cases_Bool, or_cases, or_parts, or_from, or_left, or_right, both_ways, not_from_true, not_from_false, false_from_ne_true, true_from_ne_false}
use Rattle.sat_terms.specs.Literals.{lit_true}
use Rattle.sat_terms.specs.Truth.{holds}
use Rattle.sat_terms.specs.Assignments.{assignment_of, lies_in}
use Rattle.sat_terms.specs.Cubes.{is_among, rises_above, has_literal, apart}
use Rattle.sat_terms.proofs.CubeLemmas.{nat_abs-neg, neg-neg, neg-not_same, int_eq-true, int_eq-same, int_eq-other, int_eq-apart, rises_above-head, rises_above-tail, has_literal-below}

not-not : (b : Bool) → not (not b) ≡ b
not-not true = refl
not-not false = refl

-- a literal's negation is true exactly where the literal is not
pub lit_true-neg : (t : ℕ → Bool) (l : ℤ) → 0 < nat_abs l → lit_true t (neg_ℤ l) ≡ not (lit_true t l)
lit_true-neg t (pos zero) h = absurd (omega arith)
lit_true-neg t (pos (suc n)) h = refl
lit_true-neg t (negsuc n) h = sym (not-not (t (suc n)))

-- each literal of a cube is true in what lies in the cube
pub holds-has : (t : ℕ → Bool) (c : List ℤ) (l : ℤ) → holds t c ≡ true → has_literal c l ≡ true → lit_true t l ≡ true
holds-has t [] l h has = absurd (both_ways false refl has)
holds-has t (m ∷ c) l h has =
    let parts = and_parts (lit_true t m) (holds t c) h in
    elim (or_cases (int_eq l m) (has_literal c l) has) [
      | inl same ↦ rw (int_eq-true l m same) parts.0
      | inr rest ↦ holds-has t c l parts.1 rest
    ]

-- nothing lies in two cubes that are apart
pub apart-disjoint : (t : ℕ → Bool) (n : ℕ) (c d : List ℤ) → rises_above n c ≡ true → apart c d ≡ true → holds t c ≡ true → holds t d ≡ true → ⊥
apart-disjoint t n [] d r h in_c in_d = both_ways false refl h
apart-disjoint t n (l ∷ c) d r h in_c in_d =
    let parts = and_parts (lit_true t l) (holds t c) in_c in
    elim (or_cases (has_literal d (neg_ℤ l)) (apart c d) h) [
      | inl negated ↦
          let variable : n < nat_abs l = rises_above-head n l c r in
          let positive : 0 < nat_abs l = omega arith in
          let opposite : not (lit_true t l) ≡ true = sym (lit_true-neg t l positive) ∙ holds-has t d (neg_ℤ l) in_d negated in
          both_ways (not (lit_true t l)) (not_from_true (lit_true t l) parts.0) opposite
      | inr rest ↦ apart-disjoint t (nat_abs l) c d (rises_above-tail n l c r) rest parts.1 in_d
    ]

-- ---- an assignment that lies in two cubes that are not apart

-- the variables that are true in one of the cubes
abbrev pub joined : List ℤ → List ℤ → ℕ → Bool
joined c d v = has_literal c (pos v) || has_literal d (pos v)

has_literal-above : (n : ℕ) (c : List ℤ) (l : ℤ) → rises_above n c ≡ true → has_literal c l ≡ true → n < nat_abs l
has_literal-above n [] l r has = absurd (both_ways false refl has)
has_literal-above n (m ∷ c) l r has =
    let first : n < nat_abs m = rises_above-head n m c r in
    elim (or_cases (int_eq l m) (has_literal c l) has) [
      | inl same ↦ subst (λ x. n < nat_abs x) (sym (int_eq-true l m same)) first
      | inr rest ↦
          let later : nat_abs m < nat_abs l = has_literal-above (nat_abs m) c l (rises_above-tail n m c r) rest in
          omega arith
    ]

-- a cube has a literal or its negation, and not both
one_sign : (n : ℕ) (c : List ℤ) (l : ℤ) → rises_above n c ≡ true → has_literal c l ≡ true → has_literal c (neg_ℤ l) ≡ false
one_sign n [] l r has = absurd (both_ways false refl has)
one_sign n (m ∷ c) l r has =
    let above : n < nat_abs m = rises_above-head n m c r in
    let tail = rises_above-tail n m c r in
    let size : nat_abs (neg_ℤ l) ≡ nat_abs l = nat_abs-neg l in
    elim (or_cases (int_eq l m) (has_literal c l) has) [
      | inl same ↦
          let e : l ≡ m = int_eq-true l m same in
          let variable : nat_abs l ≡ nat_abs m = ap nat_abs e in
          or_from _ _ (int_eq-other (neg_ℤ l) m (λ x. neg-not_same l (omega arith) (x ∙ sym e))) (has_literal-below (nat_abs m) c (neg_ℤ l) tail (omega arith))
      | inr rest ↦
          let later : nat_abs m < nat_abs l = has_literal-above (nat_abs m) c l tail rest in
          or_from _ _ (int_eq-apart (neg_ℤ l) m (λ x. omega arith)) (one_sign (nat_abs m) c l tail rest)
    ]

apart-other : (c d : List ℤ) (l : ℤ) → apart c d ≡ false → has_literal c l ≡ true → has_literal d (neg_ℤ l) ≡ false
apart-other [] d l h has = absurd (both_ways false refl has)
apart-other (m ∷ c) d l h has =
    let parts = or_parts (has_literal d (neg_ℤ m)) (apart c d) h in
    elim (or_cases (int_eq l m) (has_literal c l) has) [
      | inl same ↦ subst (λ x. has_literal d (neg_ℤ x) ≡ false) (sym (int_eq-true l m same)) parts.0
      | inr rest ↦ apart-other c d l parts.1 rest
    ]

apart-other_left : (c d : List ℤ) (l : ℤ) → apart c d ≡ false → has_literal d l ≡ true → has_literal c (neg_ℤ l) ≡ false
apart-other_left c d l h has = false_from_ne_true _ (λ negated.
    both_ways (has_literal d l) (subst (λ x. has_literal d x ≡ false) (neg-neg l) (apart-other c d (neg_ℤ l) h negated)) has)

joined-literal : (c d : List ℤ) (l : ℤ) → (has_literal c l || has_literal d l) ≡ true → has_literal c (neg_ℤ l) ≡ false → has_literal d (neg_ℤ l) ≡ false → lit_true (joined c d) l ≡ true
joined-literal c d (pos n) h p q = h
joined-literal c d (negsuc n) h p q = not_from_false _ (or_from _ _ p q)

holds-from : (t : ℕ → Bool) (c : List ℤ) → ((l : ℤ) → has_literal c l ≡ true → lit_true t l ≡ true) → holds t c ≡ true
holds-from t [] h = refl
holds-from t (m ∷ c) h = and_from _ _ (h m (or_left _ _ (int_eq-same m))) (holds-from t c (λ l has. h l (or_right _ _ has)))

joined-lies_left : (c d : List ℤ) → rises_above 0 c ≡ true → apart c d ≡ false → holds (joined c d) c ≡ true
joined-lies_left c d r h = holds-from (joined c d) c (λ l has.
    joined-literal c d l (or_left _ _ has) (one_sign 0 c l r has) (apart-other c d l h has))

joined-lies_right : (c d : List ℤ) → rises_above 0 d ≡ true → apart c d ≡ false → holds (joined c d) d ≡ true
joined-lies_right c d r h = holds-from (joined c d) d (λ l has.
    joined-literal c d l (or_right _ _ has) (apart-other_left c d l h has) (one_sign 0 d l r has))

-- cubes in which nothing lies at once are apart
pub apart-from_disjoint : (c d : List ℤ) → rises_above 0 c ≡ true → rises_above 0 d ≡ true → ((t : ℕ → Bool) → holds t c ≡ true → holds t d ≡ true → ⊥) → apart c d ≡ true
apart-from_disjoint c d rc rd none = true_from_ne_false _ (λ h. none (joined c d) (joined-lies_left c d rc h) (joined-lies_right c d rd h))

-- ---- from total to projected assignments

-- the values of m at p, read back at one of p
pub assignment_of-map : (m : ℕ → Bool) (p : List ℕ) (v : ℕ) → is_among p v ≡ true → assignment_of p (map m p) v ≡ m v
assignment_of-map m [] v h = absurd (both_ways false refl h)
assignment_of-map m (q ∷ p) v h =
    elim (cases_Bool (nat_eq v q)) [
      | inl same ↦ rw same (ap m (sym (eqb-true v q same)))
      | inr other ↦ rw other (assignment_of-map m p v (rw other at h))
    ]

-- a literal sees its own variable alone
pub lit_true-agree : (t u : ℕ → Bool) (l : ℤ) → t (nat_abs l) ≡ u (nat_abs l) → lit_true t l ≡ lit_true u l
lit_true-agree t u (pos n) h = h
lit_true-agree t u (negsuc n) h = ap not h

-- assignments that agree on p lie in the same cubes over p
pub holds-agree : (t u : ℕ → Bool) (p : List ℕ) (c : List ℤ) → list_all (λ l. is_among p (nat_abs l)) c ≡ true →
    ((v : ℕ) → is_among p v ≡ true → t v ≡ u v) → holds t c ≡ holds u c
holds-agree t u p [] over h = refl
holds-agree t u p (l ∷ c) over h =
    let parts = and_parts (is_among p (nat_abs l)) (list_all (λ m. is_among p (nat_abs m)) c) over in
    let first : lit_true t l ≡ lit_true u l = lit_true-agree t u l (h (nat_abs l) parts.0) in
    let rest : holds t c ≡ holds u c = holds-agree t u p c parts.1 h in
    ap (λ b. b && holds t c) first ∙ ap (λ b. lit_true u l && b) rest

pub lies_in-map : (m : ℕ → Bool) (p : List ℕ) (c : List ℤ) → list_all (λ l. is_among p (nat_abs l)) c ≡ true → lies_in p (map m p) c ≡ holds m c
lies_in-map m p c over = holds-agree (assignment_of p (map m p)) m p c over (assignment_of-map m p)
