-- Lemmas on lists of variables, and on the literals of cubes over them.
use Rattle.std.proofs.Common.{◌≡◌, ℕ, ◌+◌, ◌<◌, ◌≤◌, ◌^◌, true, false, List, [], ◌∷◌, ◌++◌, length, get_or, take, refl, sym, ◌∙◌, ap, subst, arith, Result, Ok, Err, ◌⊎◌, inl, inr}
use Rattle.std.specs.Prelude.{ℤ, pos, nat_abs, nat_lt, nat_eq, is_ok, MatchResult}
use Rattle.std.specs.List.{All, list_all}
use Rattle.std.specs.List.Sorted.{IsStrictlyIncreasing}
use Rattle.std.proofs.lemmas.Bool.{and_parts, and_from, lt-ltb, eqb-true, eq-eqb, ne_eqb, cases_order, cases_lt}
use Rattle.std.proofs.lemmas.List.{take_more}
use Rattle.std.proofs.lemmas.List.Folds.{list_any_none, list_any_at, list_all-append, Any-from_list_any}
use Rattle.std.proofs.lemmas.List.Elements.{All-nil, All-cons, All-from_get_or}
use Rattle.std.proofs.lemmas.List.Kept.{AllPairs-from_increasing}
use Rattle.sat_terms.specs.Literals.{IsLiteral}
use Rattle.sat_terms.specs.Cubes.{IsCube, is_among, rises_above, last_variable}
use Rattle.sat_terms.specs.Subjects.{IsVariableList}

-- what holds of each variable holds of one that is among them
pub All-among : (P : ℕ → Type 0) (p : List ℕ) (v : ℕ) → All P p → is_among p v ≡ true → P v
All-among P p v all h =
    let found = Any-from_list_any (nat_eq v) p h in
    let same : v ≡ found.1 = eqb-true v found.1 found.4 in
    subst P (sym (same ∙ sym found.3)) (all found.0 found.1 found.2)

-- increasing numbers do not fall
pub increasing-not_falling : (p : List ℕ) → IsStrictlyIncreasing p → (i j : ℕ) → i ≤ j → j < length p → get_or p i 0 ≤ get_or p j 0
increasing-not_falling p up i j h k = by (cases_order i j)
  where
    by : (i ≡ j) ⊎ ((i < j) ⊎ (j < i)) → get_or p i 0 ≤ get_or p j 0
    by (inl e) = subst (λ m. get_or p i 0 ≤ get_or p m 0) e (omega arith)
    by (inr (inl below)) = let less : get_or p i 0 < get_or p j 0 = AllPairs-from_increasing p up i j 0 below k in omega arith
    by (inr (inr above)) = absurd (omega arith)

-- what a search by halves answers tells whether the number is among them
pub is_among-searched : (p : List ℕ) (v : ℕ) (r : Result ℕ ℕ) →
    MatchResult r (λ i. (i < length p) × (get_or p i 0 ≡ v)) (λ i. (i ≤ length p) × ((k : ℕ) → k < i → get_or p k 0 < v) × ((k : ℕ) → i ≤ k → k < length p → v < get_or p k 0)) →
    is_ok r ≡ is_among p v
is_among-searched p v (Ok i) h = sym (list_any_at (nat_eq v) p i 0 h.0 (eq-eqb v (get_or p i 0) (sym h.1)))
is_among-searched p v (Err i) h = sym (list_any_none (nat_eq v) p other)
  where
    differs : (k : ℕ) → k < length p → (k < i) ⊎ (i ≤ k) → nat_eq v (get_or p k 0) ≡ false
    differs k inside (inl before) = let below : get_or p k 0 < v = h.1 k before in ne_eqb v (get_or p k 0) (λ e. omega arith)
    differs k inside (inr after) = let above : v < get_or p k 0 = h.2 k after inside in ne_eqb v (get_or p k 0) (λ e. omega arith)

    other : All (λ x. nat_eq v x ≡ false) p
    other = All-from_get_or (λ x. nat_eq v x ≡ false) p 0 (λ k inside. differs k inside (cases_lt k i))

-- the literals of a cube over variables are literals
pub IsLiteral-of_cube : (p : List ℕ) (c : List ℤ) → IsVariableList p → list_all (λ l. is_among p (nat_abs l)) c ≡ true → All IsLiteral c
IsLiteral-of_cube p [] h over = All-nil IsLiteral
IsLiteral-of_cube p (l ∷ c) h over =
    let parts = and_parts (is_among p (nat_abs l)) (list_all (λ m. is_among p (nat_abs m)) c) over in
    All-cons IsLiteral l c (All-among (λ v. (0 < v) × (v < 2 ^ 31)) p (nat_abs l) h.named parts.0) (IsLiteral-of_cube p c h parts.1)

-- one more literal at the end
pub rises_above-push : (n : ℕ) (c : List ℤ) (l : ℤ) → rises_above n c ≡ true → last_variable n c < nat_abs l → rises_above n (c ++ l ∷ []) ≡ true
rises_above-push n [] l r h = and_from _ _ (lt-ltb _ _ h) refl
rises_above-push n (m ∷ c) l r h =
    let parts = and_parts (nat_lt n (nat_abs m)) (rises_above (nat_abs m) c) r in
    and_from _ _ parts.0 (rises_above-push (nat_abs m) c l parts.1 h)

pub last_variable-push : (n : ℕ) (c : List ℤ) (l : ℤ) → last_variable n (c ++ l ∷ []) ≡ nat_abs l
last_variable-push n [] l = refl
last_variable-push n (m ∷ c) l = last_variable-push (nat_abs m) c l

pub IsCube-push : (p : List ℕ) (c : List ℤ) (l : ℤ) → IsCube p c → is_among p (nat_abs l) ≡ true → last_variable 0 c < nat_abs l → IsCube p (c ++ l ∷ [])
IsCube-push p c l h shown above = record {
  rising = rises_above-push 0 c l h.rising above;
  over = list_all-append (λ m. is_among p (nat_abs m)) c (l ∷ []) ∙ and_from _ _ h.over (and_from _ _ shown refl);
}

-- the same at the place of a walk
pub IsCube-more : (p : List ℕ) (c : List ℤ) (i : ℕ) (v : ℕ) → i < length c → IsCube p (take i c) → v ≡ nat_abs (get_or c i (pos 0)) →
    is_among p v ≡ true → last_variable 0 (take i c) < v → IsCube p (take (i + 1) c) × (v ≡ last_variable 0 (take (i + 1) c))
IsCube-more p c i v inside h e shown above =
    let next = take_more c i (pos 0) inside in
    let among : is_among p (nat_abs (get_or c i (pos 0))) ≡ true = subst (λ n. is_among p n ≡ true) e shown in (
      subst (IsCube p) (sym next) (IsCube-push p (take i c) (get_or c i (pos 0)) h among (omega arith)),
      e ∙ sym (ap (last_variable 0) next ∙ last_variable-push 0 (take i c) (get_or c i (pos 0))),
    )
