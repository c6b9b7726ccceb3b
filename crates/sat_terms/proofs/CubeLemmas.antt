-- Lemmas on rising literals, and on the walks over two cubes.
use Rattle.std.proofs.Common.{◌≡◌, ℕ, zero, suc, ◌+◌, ◌<◌, ◌≤◌, Bool, true, false, ◌&&◌, ◌||◌, List, [], ◌∷◌, length, get_or, drop, refl, sym, ◌∙◌, ap, subst, inl, inr, arith}
use Rattle.std.specs.Prelude.{ℤ, pos, negsuc, neg_ℤ, nat_abs, nat_lt}
use Rattle.std.specs.List.{All}
use Rattle.std.specs.Ordering.{int_eq}
use Rattle.std.proofs.Math.Seq.{drop-cons}
use Rattle.std.proofs.lemmas.List.{drop_all}
use Rattle.std.proofs.lemmas.List.Elements.{All-head, All-tail}
use Rattle.std.proofs.lemmas.Bool.{and_parts, and_from, ltb-true, lt-ltb, false_from_ne_true, or_from, or_cases, both_ways}
use Rattle.std.proofs.lemmas.Bool.Decides.{Decides-int_eq}
use Rattle.sat_terms.specs.Cubes.{rises_above, has_literal, apart, within}

-- ---- literals

pub nat_abs-neg : (l : ℤ) → nat_abs (neg_ℤ l) ≡ nat_abs l
nat_abs-neg (pos zero) = refl
nat_abs-neg (pos (suc n)) = refl
nat_abs-neg (negsuc n) = refl

pub neg-neg : (l : ℤ) → neg_ℤ (neg_ℤ l) ≡ l
neg-neg (pos zero) = refl
neg-neg (pos (suc n)) = refl
neg-neg (negsuc n) = refl

pub int_eq-same : (l : ℤ) → int_eq l l ≡ true
int_eq-same l = (Decides-int_eq l l).1 refl

pub int_eq-true : (l m : ℤ) → int_eq l m ≡ true → l ≡ m
int_eq-true l m h = (Decides-int_eq l m).0 h

pub int_eq-other : (l m : ℤ) → (l ≡ m → ⊥) → int_eq l m ≡ false
int_eq-other l m h = false_from_ne_true _ (λ e. h (int_eq-true l m e))

-- what holds of each literal of a clause holds of one of them
pub All-literal : (P : ℤ → Type 0) (c : List ℤ) (l : ℤ) → All P c → has_literal c l ≡ true → P l
All-literal P [] l all h = absurd (both_ways false refl h)
All-literal P (m ∷ c) l all h =
    elim (or_cases (int_eq l m) (has_literal c l) h) [
      | inl same ↦ subst P (sym (int_eq-true l m same)) (All-head P m c all)
      | inr rest ↦ All-literal P c l (All-tail P m c all) rest
    ]

-- literals of different variables are different
pub int_eq-apart : (l m : ℤ) → (nat_abs l ≡ nat_abs m → ⊥) → int_eq l m ≡ false
int_eq-apart l m h = int_eq-other l m (λ e. h (ap nat_abs e))

-- two literals of one variable that are not the same are negations of each other
pub neg-from_other : (l m : ℤ) → nat_abs l ≡ nat_abs m → (l ≡ m → ⊥) → neg_ℤ l ≡ m
neg-from_other (pos a) (pos b) e h = absurd (h (ap pos e))
neg-from_other (pos zero) (negsuc b) e h = absurd (zero_is_not b e)
  where
    zero_is_not : (b : ℕ) → zero ≡ suc b → ⊥
    zero_is_not b e = omega arith
neg-from_other (pos (suc a)) (negsuc b) e h = ap negsuc (fewer a b e)
  where
    fewer : (a b : ℕ) → suc a ≡ suc b → a ≡ b
    fewer a b e = omega arith
neg-from_other (negsuc a) (pos b) e h = ap pos e
neg-from_other (negsuc a) (negsuc b) e h = absurd (h (ap negsuc (fewer a b e)))
  where
    fewer : (a b : ℕ) → suc a ≡ suc b → a ≡ b
    fewer a b e = omega arith

-- a literal of a variable is not its own negation
pub neg-not_same : (l : ℤ) → 0 < nat_abs l → neg_ℤ l ≡ l → ⊥
neg-not_same (pos zero) h e = omega arith
neg-not_same (pos (suc n)) h e = cc
neg-not_same (negsuc n) h e = cc

-- ---- rising literals

-- the literals after the first rise from its variable on
pub rises_above-head : (n : ℕ) (l : ℤ) (c : List ℤ) → rises_above n (l ∷ c) ≡ true → n < nat_abs l
rises_above-head n l c h = ltb-true _ _ (and_parts (nat_lt n (nat_abs l)) (rises_above (nat_abs l) c) h).0

pub rises_above-tail : (n : ℕ) (l : ℤ) (c : List ℤ) → rises_above n (l ∷ c) ≡ true → rises_above (nat_abs l) c ≡ true
rises_above-tail n l c h = (and_parts (nat_lt n (nat_abs l)) (rises_above (nat_abs l) c) h).1

-- what stands at a place is above n, and the rest rises from there on
pub rises_above-at : (n : ℕ) (c : List ℤ) (i : ℕ) (d : ℤ) → i < length c → rises_above n c ≡ true →
    (n < nat_abs (get_or c i d)) × (rises_above (nat_abs (get_or c i d)) (drop (suc i) c) ≡ true)
rises_above-at n [] i d h r = absurd (omega arith)
rises_above-at n (l ∷ c) zero d h r = (rises_above-head n l c r, rises_above-tail n l c r)
rises_above-at n (l ∷ c) (suc i) d h r =
    let inner : i < length c = omega arith in
    let rest = rises_above-at (nat_abs l) c i d inner (rises_above-tail n l c r) in
    let first : n < nat_abs l = rises_above-head n l c r in
    let second : nat_abs l < nat_abs (get_or c i d) = rest.0 in
    (omega arith, rest.1)

-- a literal of no variable above n is not among literals that rise above n
pub has_literal-below : (n : ℕ) (c : List ℤ) (l : ℤ) → rises_above n c ≡ true → nat_abs l ≤ n → has_literal c l ≡ false
has_literal-below n [] l r h = refl
has_literal-below n (m ∷ c) l r h =
    let above : n < nat_abs m = rises_above-head n m c r in
    or_from _ _ (int_eq-apart l m (λ e. omega arith)) (has_literal-below (nat_abs m) c l (rises_above-tail n m c r) (omega arith))

-- ---- the walk of `apart`

pub apart-nil : (c : List ℤ) → apart c [] ≡ false
apart-nil [] = refl
apart-nil (l ∷ c) = apart-nil c

-- a first literal of d whose variable is below those of c
pub apart-skip_right : (n : ℕ) (c : List ℤ) (m : ℤ) (d : List ℤ) → rises_above n c ≡ true → nat_abs m ≤ n → apart c (m ∷ d) ≡ apart c d
apart-skip_right n [] m d r h = refl
apart-skip_right n (l ∷ c) m d r h =
    let above : n < nat_abs l = rises_above-head n l c r in
    let other : int_eq (neg_ℤ l) m ≡ false = int_eq-apart (neg_ℤ l) m (λ e. let same : nat_abs (neg_ℤ l) ≡ nat_abs l = nat_abs-neg l in omega arith) in
    rw other (ap (λ b. has_literal d (neg_ℤ l) || b) (apart-skip_right (nat_abs l) c m d (rises_above-tail n l c r) (omega arith)))

-- a first literal of c whose variable is below those of d
pub apart-skip_left : (n : ℕ) (l : ℤ) (c d : List ℤ) → rises_above n d ≡ true → nat_abs l ≤ n → apart (l ∷ c) d ≡ apart c d
apart-skip_left n l c d r h =
    let same : nat_abs (neg_ℤ l) ≡ nat_abs l = nat_abs-neg l in
    let none : has_literal d (neg_ℤ l) ≡ false = has_literal-below n d (neg_ℤ l) r (omega arith) in
    rw none refl

-- the same literal first in both
pub apart-skip_both : (l : ℤ) (c d : List ℤ) → 0 < nat_abs l → rises_above (nat_abs l) c ≡ true → rises_above (nat_abs l) d ≡ true → apart (l ∷ c) (l ∷ d) ≡ apart c d
apart-skip_both l c d h rc rd =
    let same : nat_abs (neg_ℤ l) ≡ nat_abs l = nat_abs-neg l in
    let other : int_eq (neg_ℤ l) l ≡ false = int_eq-other (neg_ℤ l) l (neg-not_same l h) in
    let none : has_literal d (neg_ℤ l) ≡ false = has_literal-below (nat_abs l) d (neg_ℤ l) rd (omega arith) in
    rw (other, none) (apart-skip_right (nat_abs l) c l d rc (omega arith))

-- a literal first in c, its negation first in d
pub apart-found : (l m : ℤ) (c d : List ℤ) → nat_abs l ≡ nat_abs m → (l ≡ m → ⊥) → apart (l ∷ c) (m ∷ d) ≡ true
apart-found l m c d e h =
    let hit : int_eq (neg_ℤ l) m ≡ true = subst (λ x. int_eq (neg_ℤ l) x ≡ true) (neg-from_other l m e h) (int_eq-same (neg_ℤ l)) in
    rw hit refl

-- ---- the walk of `within`

pub within-nil : (m : ℤ) (d : List ℤ) → within [] (m ∷ d) ≡ false
within-nil m d = refl

-- a first literal of c whose variable is below those of d
pub within-skip_left : (l : ℤ) (c d : List ℤ) → rises_above (nat_abs l) d ≡ true → within (l ∷ c) d ≡ within c d
within-skip_left l c d r = go (nat_abs l) d r (omega arith)
  where
    go : (n : ℕ) (d : List ℤ) → rises_above n d ≡ true → nat_abs l ≤ n → within (l ∷ c) d ≡ within c d
    go n [] r h = refl
    go n (m ∷ d) r h =
        let above : n < nat_abs m = rises_above-head n m d r in
        let other : int_eq m l ≡ false = int_eq-apart m l (λ e. omega arith) in
        rw other (ap (λ b. has_literal c m && b) (go (nat_abs m) d (rises_above-tail n m d r) (omega arith)))

-- the same literal first in both
pub within-skip_both : (l : ℤ) (c d : List ℤ) → rises_above (nat_abs l) d ≡ true → within (l ∷ c) (l ∷ d) ≡ within c d
within-skip_both l c d r =
    let same : int_eq l l ≡ true = int_eq-same l in
    rw same (within-skip_left l c d r)

-- a first literal of d that is not first in c, and whose variable is none of those after
pub within-missed : (l m : ℤ) (c d : List ℤ) → nat_abs m ≤ nat_abs l → (m ≡ l → ⊥) → rises_above (nat_abs l) c ≡ true → within (l ∷ c) (m ∷ d) ≡ false
within-missed l m c d h other r =
    let first : int_eq m l ≡ false = int_eq-other m l other in
    let rest : has_literal c m ≡ false = has_literal-below (nat_abs l) c m r h in
    rw (first, rest) refl

-- ---- the same at the places of a walk

plus_one : (i : ℕ) → i + 1 ≡ suc i
plus_one i = omega arith

drop-next : (c : List ℤ) (i : ℕ) → drop (i + 1) c ≡ drop (suc i) c
drop-next c i = ap (λ k. drop k c) (plus_one i)

moved : (test : List ℤ → List ℤ → Bool) (c d xs ys c' d' xs' ys' : List ℤ) → c ≡ xs → d ≡ ys → c' ≡ xs' → d' ≡ ys' → test xs ys ≡ test xs' ys' → test c d ≡ test c' d'
moved test c d xs ys c' d' xs' ys' p q r s e = cc

settled : (test : List ℤ → List ℤ → Bool) (c d xs ys : List ℤ) (b : Bool) → c ≡ xs → d ≡ ys → test xs ys ≡ b → test c d ≡ b
settled test c d xs ys b p q e = cc

pub apart-step_left : (c d : List ℤ) (i j : ℕ) → i < length c → j < length d → rises_above 0 d ≡ true →
    nat_abs (get_or c i (pos 0)) < nat_abs (get_or d j (pos 0)) → apart (drop i c) (drop j d) ≡ apart (drop (i + 1) c) (drop j d)
apart-step_left c d i j hi hj rd h =
    let at = rises_above-at 0 d j (pos 0) hj rd in
    let first = drop-cons d j (pos 0) hj in
    moved apart _ _ _ _ _ _ _ _ (drop-cons c i (pos 0) hi) first (drop-next c i) first
    (apart-skip_left (nat_abs (get_or c i (pos 0))) (get_or c i (pos 0)) (drop (suc i) c) (get_or d j (pos 0) ∷ drop (suc j) d)
    (and_from _ _ (lt-ltb _ _ h) at.1) (omega arith))

pub apart-step_right : (c d : List ℤ) (i j : ℕ) → i < length c → j < length d → rises_above 0 c ≡ true →
    nat_abs (get_or d j (pos 0)) < nat_abs (get_or c i (pos 0)) → apart (drop i c) (drop j d) ≡ apart (drop i c) (drop (j + 1) d)
apart-step_right c d i j hi hj rc h =
    let at = rises_above-at 0 c i (pos 0) hi rc in
    let first = drop-cons c i (pos 0) hi in
    moved apart _ _ _ _ _ _ _ _ first (drop-cons d j (pos 0) hj) first (drop-next d j)
    (apart-skip_right (nat_abs (get_or d j (pos 0))) (get_or c i (pos 0) ∷ drop (suc i) c) (get_or d j (pos 0)) (drop (suc j) d)
    (and_from _ _ (lt-ltb _ _ h) at.1) (omega arith))

pub apart-step_both : (c d : List ℤ) (i j : ℕ) → i < length c → j < length d → rises_above 0 c ≡ true → rises_above 0 d ≡ true →
    get_or c i (pos 0) ≡ get_or d j (pos 0) → apart (drop i c) (drop j d) ≡ apart (drop (i + 1) c) (drop (j + 1) d)
apart-step_both c d i j hi hj rc rd e =
    let at_c = rises_above-at 0 c i (pos 0) hi rc in
    let at_d = rises_above-at 0 d j (pos 0) hj rd in
    moved apart _ _ _ _ _ _ _ _ (drop-cons c i (pos 0) hi) (drop-cons d j (pos 0) hj ∙ ap (λ l. l ∷ drop (suc j) d) (sym e)) (drop-next c i) (drop-next d j)
    (apart-skip_both (get_or c i (pos 0)) (drop (suc i) c) (drop (suc j) d) at_c.0 at_c.1 (subst (λ l. rises_above (nat_abs l) (drop (suc j) d) ≡ true) (sym e) at_d.1))

pub apart-step_found : (c d : List ℤ) (i j : ℕ) → i < length c → j < length d →
    nat_abs (get_or c i (pos 0)) ≡ nat_abs (get_or d j (pos 0)) → (get_or c i (pos 0) ≡ get_or d j (pos 0) → ⊥) → apart (drop i c) (drop j d) ≡ true
apart-step_found c d i j hi hj e h =
    settled apart _ _ _ _ _ (drop-cons c i (pos 0) hi) (drop-cons d j (pos 0) hj)
    (apart-found (get_or c i (pos 0)) (get_or d j (pos 0)) (drop (suc i) c) (drop (suc j) d) e h)

pub apart-step_end_right : (c d : List ℤ) (i j : ℕ) → length d ≤ j → apart (drop i c) (drop j d) ≡ false
apart-step_end_right c d i j h = settled apart _ _ _ _ _ refl (drop_all j d h) (apart-nil (drop i c))

pub within-step_left : (c d : List ℤ) (i j : ℕ) → i < length c → j < length d → rises_above 0 d ≡ true →
    nat_abs (get_or c i (pos 0)) < nat_abs (get_or d j (pos 0)) → within (drop i c) (drop j d) ≡ within (drop (i + 1) c) (drop j d)
within-step_left c d i j hi hj rd h =
    let at = rises_above-at 0 d j (pos 0) hj rd in
    let first = drop-cons d j (pos 0) hj in
    moved within _ _ _ _ _ _ _ _ (drop-cons c i (pos 0) hi) first (drop-next c i) first
    (within-skip_left (get_or c i (pos 0)) (drop (suc i) c) (get_or d j (pos 0) ∷ drop (suc j) d) (and_from _ _ (lt-ltb _ _ h) at.1))

pub within-step_both : (c d : List ℤ) (i j : ℕ) → i < length c → j < length d → rises_above 0 d ≡ true →
    get_or c i (pos 0) ≡ get_or d j (pos 0) → within (drop i c) (drop j d) ≡ within (drop (i + 1) c) (drop (j + 1) d)
within-step_both c d i j hi hj rd e =
    let at = rises_above-at 0 d j (pos 0) hj rd in
    moved within _ _ _ _ _ _ _ _ (drop-cons c i (pos 0) hi) (drop-cons d j (pos 0) hj ∙ ap (λ l. l ∷ drop (suc j) d) (sym e)) (drop-next c i) (drop-next d j)
    (within-skip_both (get_or c i (pos 0)) (drop (suc i) c) (drop (suc j) d) (subst (λ l. rises_above (nat_abs l) (drop (suc j) d) ≡ true) (sym e) at.1))

pub within-step_missed : (c d : List ℤ) (i j : ℕ) → i < length c → j < length d → rises_above 0 c ≡ true →
    nat_abs (get_or d j (pos 0)) ≤ nat_abs (get_or c i (pos 0)) → (get_or c i (pos 0) ≡ get_or d j (pos 0) → ⊥) → within (drop i c) (drop j d) ≡ false
within-step_missed c d i j hi hj rc h other =
    let at = rises_above-at 0 c i (pos 0) hi rc in
    settled within _ _ _ _ _ (drop-cons c i (pos 0) hi) (drop-cons d j (pos 0) hj)
    (within-missed (get_or c i (pos 0)) (get_or d j (pos 0)) (drop (suc i) c) (drop (suc j) d) h (λ e. other (sym e)) at.1)

pub within-step_end_left : (c d : List ℤ) (i j : ℕ) → length c ≤ i → j < length d → within (drop i c) (drop j d) ≡ false
within-step_end_left c d i j h hj = settled within _ _ _ _ _ (drop_all i c h) (drop-cons d j (pos 0) hj) refl

pub within-step_end_right : (c d : List ℤ) (i j : ℕ) → length d ≤ j → within (drop i c) (drop j d) ≡ true
within-step_end_right c d i j h = settled within _ _ _ _ _ refl (drop_all j d h) refl
