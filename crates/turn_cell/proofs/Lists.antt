-- What stands in a list, and what its elements add up to.
use Rattle.std.proofs.Common.{◌≡◌, ◌≢◌, ◌⊎◌, ℕ, zero, suc, ◌+◌, ◌<◌, ◌≤◌, List, [], ◌∷◌, ◌++◌, length, get_or, set, drop, refl, sym, ap, subst, inl, inr, ⊎_elim, arith, ◌==◌, eq-eqb, ne_eqb}
use Rattle.std.specs.Prelude.{All, Contains}
use mathlib.Core.Option.{some, some-injective, some-ne-none}
use mathlib.Core.Logic.{dite}
use native.Mathlib.Decide.{ℕ_discrete}
use lib.ListN.{get_elem?}
use Rattle.turn_cell.specs.declared.rule.Claim.{Claim}
use Rattle.turn_cell.specs.Rule.{total, as_number, claim_count, entries_of}

-- x stands in the list, by recursion
abbrev pub Has : {A : Type 0} → A → List A → Type 0
Has x [] = ⊥
Has x (y ∷ ys) = (y ≡ x) ⊎ Has x ys

module _ {A : Type 0} where
  has_at : (xs : List A) (k : ℕ) (x : A) → k < length xs → get_or xs k x ≡ x → Has x xs
  has_at [] k x lt e = absurd (omega arith)
  has_at (y ∷ ys) zero x lt e = inl e
  has_at (y ∷ ys) (suc k) x lt e = inr (has_at ys k x (omega arith) e)

  pub Has-from_Contains : (xs : List A) (x : A) → Contains xs x → Has x xs
  Has-from_Contains xs x c = has_at xs c.0 x c.1 c.2

  pub Contains-from_Has : (xs : List A) (x : A) → Has x xs → Contains xs x
  Contains-from_Has [] x h = absurd h
  Contains-from_Has (y ∷ ys) x h = ⊎_elim (λ (e : y ≡ x). (0, omega arith, e)) (λ (r : Has x ys). let c = Contains-from_Has ys x r in (suc c.0, omega (arith, c.1), c.2)) h

  pub All-Has : (P : A → Type 0) (xs : List A) → All P xs → (x : A) → Has x xs → P x
  All-Has P [] all x h = absurd h
  All-Has P (y ∷ ys) all x h = ⊎_elim (λ (e : y ≡ x). subst P e (all 0 x (omega arith))) (λ (r : Has x ys). All-Has P ys (λ k d lt. all (suc k) d (omega arith)) x r) h

  pub All-from_Has : (P : A → Type 0) (xs : List A) → ((x : A) → Has x xs → P x) → All P xs
  All-from_Has P [] h k d lt = absurd (omega arith)
  All-from_Has P (y ∷ ys) h zero d lt = h y (inl refl)
  All-from_Has P (y ∷ ys) h (suc k) d lt = All-from_Has P ys (λ x r. h x (inr r)) k d (omega arith)

module _ {A : Type 0} (f : A → ℕ) where
  pub total_append : (xs ys : List A) → total f (xs ++ ys) ≡ total f xs + total f ys
  total_append [] ys = omega arith
  total_append (x ∷ xs) ys = let h = total_append xs ys in omega arith

  pub total_at : (xs : List A) (i : ℕ) (x : A) → get_elem? xs i ≡ some x → f x ≤ total f xs
  total_at [] i x e = absurd (some-ne-none x (sym e))
  total_at (y ∷ ys) zero x e = let h : f y ≡ f x = ap f (some-injective y x e) in omega arith
  total_at (y ∷ ys) (suc i) x e = let h = total_at ys i x e in omega arith

  pub total_set : (xs : List A) (i : ℕ) (x y : A) → get_elem? xs i ≡ some x → total f (set xs i y) + f x ≡ total f xs + f y
  total_set [] i x y e = absurd (some-ne-none x (sym e))
  total_set (z ∷ zs) zero x y e = let h : f z ≡ f x = ap f (some-injective z x e) in omega arith
  total_set (z ∷ zs) (suc i) x y e = let h = total_set zs i x y e in omega arith

  pub total_same : (xs : List A) (i : ℕ) (x y : A) → get_elem? xs i ≡ some x → f y ≡ f x → total f (set xs i y) ≡ total f xs
  total_same xs i x y e s = let h = total_set xs i x y e in omega arith

  -- two different places
  pub total_two : (xs : List A) (i j : ℕ) (x y : A) → get_elem? xs i ≡ some x → get_elem? xs j ≡ some y → i ≢ j → f x + f y ≤ total f xs
  total_two [] i j x y e d n = absurd (some-ne-none x (sym e))
  total_two (z ∷ zs) zero zero x y e d n = absurd (n refl)
  total_two (z ∷ zs) zero (suc j) x y e d n = let h : f z ≡ f x = ap f (some-injective z x e) in let k = total_at zs j y d in omega arith
  total_two (z ∷ zs) (suc i) zero x y e d n = let h : f z ≡ f y = ap f (some-injective z y d) in let k = total_at zs i x e in omega arith
  total_two (z ∷ zs) (suc i) (suc j) x y e d n = let k = total_two zs i j x y e d (λ s. n (ap suc s)) in omega arith

  pub total_within : (g : A → ℕ) (xs : List A) → ((i : ℕ) (x : A) → get_elem? xs i ≡ some x → f x ≤ g x) → total f xs ≤ total g xs
  total_within g [] h = omega arith
  total_within g (x ∷ xs) h = let a = h 0 x refl in let b = total_within g xs (λ i y e. h (suc i) y e) in omega arith

module _ {A : Type 0} where
  pub has_append : (x : A) (xs ys : List A) → Has x (xs ++ ys) → Has x xs ⊎ Has x ys
  has_append x [] ys h = inr h
  has_append x (z ∷ zs) ys h = ⊎_elim (λ (e : z ≡ x). inl (inl e)) (λ (r : Has x (zs ++ ys)). ⊎_elim (λ (a : Has x zs). inl (inr a)) (λ (b : Has x ys). inr b) (has_append x zs ys r)) h

  pub drop_added : (xs ys : List A) → drop (length xs) (xs ++ ys) ≡ ys
  drop_added [] ys = refl
  drop_added (x ∷ xs) ys = drop_added xs ys

pub one_same : (n k : ℕ) → k ≡ n → as_number (k == n) ≡ 1
one_same n k e = ap as_number (eq-eqb k n e)

pub one_other : (n k : ℕ) → k ≢ n → as_number (k == n) ≡ 0
one_other n k e = ap as_number (ne_eqb k n e)

module _ {E : Type 0} where
  pub claim_count_has : (c : Claim E) (cs : List (Claim E)) → Has c cs → 0 < claim_count c.pass cs
  claim_count_has c [] h = absurd h
  claim_count_has c (d ∷ ds) h = ⊎_elim (λ (e : d ≡ c). let k = one_same c.pass d.pass (ap (λ (z : Claim E). z.pass) e) in omega arith) (λ (r : Has c ds). let k = claim_count_has c ds r in omega arith) h

  pub has_claim : (n : ℕ) (cs : List (Claim E)) → 0 < claim_count n cs → (c : Claim E) × Has c cs × (c.pass ≡ n)
  has_claim n [] h = absurd (omega arith)
  has_claim n (d ∷ ds) h = dite (ℕ_discrete d.pass n) (λ e. (d, inl refl, e)) (λ ne. let z = one_other n d.pass ne in let r = has_claim n ds (omega arith) in (r.0, inr r.1, r.2))

module _ {E : Type 0} (pass_of : E → ℕ) (n : ℕ) where
  pub entries_all : (xs : List E) → ((e : E) → Has e xs → pass_of e ≡ n) → entries_of pass_of n xs ≡ xs
  entries_all [] h = refl
  entries_all (x ∷ xs) h = rw (eq-eqb (pass_of x) n (h x (inl refl))) (ap (λ ys. x ∷ ys) (entries_all xs (λ e i. h e (inr i))))

  pub entries_none : (xs : List E) → ((e : E) → Has e xs → pass_of e ≢ n) → entries_of pass_of n xs ≡ []
  entries_none [] h = refl
  entries_none (x ∷ xs) h = rw (ne_eqb (pass_of x) n (h x (inl refl))) (entries_none xs (λ e i. h e (inr i)))
