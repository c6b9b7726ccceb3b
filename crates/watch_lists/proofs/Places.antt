-- Lists of places: what a deletion and a place in front change.
use Rattle.std.proofs.Common.{◌≡◌, ◌≢◌, ℕ, ◌<◌, ◌≤◌, true, false, cond, nat_eq, List, [], ◌∷◌, length, refl, sym, ap, ◌∙◌, inl, inr, arith}
use Rattle.std.proofs.lemmas.Bool.{cases_eq, eq-eqb, ne_eqb}
use Rattle.std.proofs.lemmas.Map.Steps.{length-le_from_distinct_below}
use Rattle.std.specs.List.{IsDistinct, AllByRecursion}
use Rattle.watch_lists.specs.Places.{has, AreApart, first_or, next_in, prev_in, delete}

pub differs : (n m : ℕ) (xs : List ℕ) → has n xs ≡ true → has m xs ≡ false → n ≢ m
differs n m xs h out e = let bad : true ≡ false = sym h ∙ ap (λ k. has k xs) e ∙ out in grind arith

-- the place before one is in the list, or the one before the list
pub prev_has : (b n : ℕ) (xs : List ℕ) → has n xs ≡ true → has (prev_in b xs n) (b ∷ xs) ≡ true
prev_has b n [] h = grind arith
prev_has b n (x ∷ xs) h = grind (arith, prev_has x n xs)

-- so is the one after it, or it is the end
pub next_has : (s n : ℕ) (xs : List ℕ) → has n xs ≡ true → has (next_in s xs n) (s ∷ xs) ≡ true
next_has s n [] h = grind arith
next_has s n (x ∷ []) h = grind arith
next_has s n (x ∷ y ∷ xs) h = grind (arith, next_has s n (y ∷ xs))

pub delete_absent : (x : ℕ) (xs : List ℕ) → has x xs ≡ false → delete x xs ≡ xs
delete_absent x [] h = refl
delete_absent x (y ∷ ys) h = grind (arith, delete_absent x ys)

-- what stays is what was there, but for the place
pub delete_has : (x n : ℕ) (xs : List ℕ) → n ≢ x → has n (delete x xs) ≡ has n xs
delete_has x n [] other = refl
delete_has x n (y ∷ ys) other = grind (arith, delete_has x n ys other)

pub delete_gone : (x : ℕ) (xs : List ℕ) → AreApart xs → has x (delete x xs) ≡ false
delete_gone x [] apart = refl
delete_gone x (y ∷ ys) apart =
    elim (cases_eq x y) [
      | inl same ↦ let out = apart.0 in grind arith
      | inr other ↦ grind (arith, delete_gone x ys apart.1)
    ]

pub delete_less : (x n : ℕ) (xs : List ℕ) → has n xs ≡ false → has n (delete x xs) ≡ false
delete_less x n [] out = refl
delete_less x n (y ∷ ys) out = grind (arith, delete_less x n ys)

pub delete_apart : (x : ℕ) (xs : List ℕ) → AreApart xs → AreApart (delete x xs)
delete_apart x [] apart = apart
delete_apart x (y ∷ ys) apart =
    elim (cases_eq x y) [
      | inl same ↦ rw (eq-eqb x y same) apart.1
      | inr other ↦ rw (ne_eqb x y other) (delete_less x y ys apart.0, delete_apart x ys apart.1)
    ]

pub first_delete : (s y x : ℕ) (ys : List ℕ) → has y ys ≡ false → AreApart ys → has x ys ≡ true →
    first_or s (delete x ys) ≡ cond (nat_eq y (prev_in y ys x)) (next_in s ys x) (first_or s ys)
first_delete s y x [] out apart h = grind arith
first_delete s y x (z ∷ ys) out apart h =
    elim (cases_eq x z) [
      | inl same ↦ grind arith
      | inr other ↦
          let away = ne_eqb x z other in
          let rest : has x ys ≡ true = grind arith in
          let clear : prev_in z ys x ≢ y = differs (prev_in z ys x) y (z ∷ ys) (prev_has z x ys rest) out in
          let not_it = ne_eqb y (prev_in z ys x) (λ e. clear (sym e)) in
          rw away (rw not_it refl)
    ]

pub next_delete : (s b x n : ℕ) (xs : List ℕ) → AreApart xs → has b xs ≡ false → has x xs ≡ true →
    has n xs ≡ true → n ≢ x →
    next_in s (delete x xs) n ≡ cond (nat_eq n (prev_in b xs x)) (next_in s xs x) (next_in s xs n)
next_delete s b x n [] apart out h here other = grind arith
next_delete s b x n (y ∷ ys) apart out h here other =
    let clear : n ≢ b = differs n b (y ∷ ys) here out in
    elim (cases_eq x y) [
      | inl same ↦
          let later : n ≢ y = λ e. other (e ∙ sym same) in
          rw (eq-eqb x y same) (rw (ne_eqb n b clear) (rw (ne_eqb n y later) refl))
      | inr away ↦ elim (cases_eq n y) [
        | inl first ↦ grind (arith, first_delete s y x ys)
        | inr later ↦ grind (arith, next_delete s y x n ys)
      ]
    ]

-- another place before the list is the one before its first alone
pub prev_front : (s b x n : ℕ) (xs : List ℕ) → AreApart xs → has n xs ≡ true →
    prev_in x xs n ≡ cond (nat_eq n (first_or s xs)) x (prev_in b xs n)
prev_front s b x n [] apart h = grind arith
prev_front s b x n (y ∷ ys) apart h = grind arith

pub prev_delete : (s b x n : ℕ) (xs : List ℕ) → AreApart xs → has s xs ≡ false → has x xs ≡ true →
    has n xs ≡ true → n ≢ x →
    prev_in b (delete x xs) n ≡ cond (nat_eq n (next_in s xs x)) (prev_in b xs x) (prev_in b xs n)
prev_delete s b x n [] apart out h here other = grind arith
prev_delete s b x n (y ∷ ys) apart out h here other =
    let clear : n ≢ s = differs n s (y ∷ ys) here out in
    elim (cases_eq x y) [
      | inl same ↦
          let later : n ≢ y = λ e. other (e ∙ sym same) in
          let rest : has n ys ≡ true = grind arith in
          rw (eq-eqb x y same) (rw (ne_eqb n y later) (prev_front s y b n ys apart.1 rest))
      | inr away ↦ elim (cases_eq n y) [
        | inl first ↦
            let rest : has x ys ≡ true = grind arith in
            let missing : has n (s ∷ ys) ≡ false = grind arith in
            let not_it : n ≢ next_in s ys x =
            λ e. differs (next_in s ys x) n (s ∷ ys) (next_has s x ys rest) missing (sym e) in
            rw (ne_eqb x y away) (rw (ne_eqb n (next_in s ys x) not_it) (rw (eq-eqb n y first) refl))
        | inr later ↦ grind (arith, prev_delete s y x n ys)
      ]
    ]

none_equal : (x : ℕ) (xs : List ℕ) → has x xs ≡ false → AllByRecursion (λ y. nat_eq x y ≡ false) xs
none_equal x [] out = tt
none_equal x (y ∷ ys) out = let now : nat_eq x y ≡ false = grind arith in let later : has x ys ≡ false = grind arith in (now, none_equal x ys later)

distinct : (xs : List ℕ) → AreApart xs → IsDistinct nat_eq xs
unfolding IsDistinct
distinct [] apart = tt
distinct (x ∷ xs) apart = (none_equal x xs apart.0, distinct xs apart.1)

pub few_places : (n : ℕ) (xs : List ℕ) → AreApart xs → ((q : ℕ) → has q xs ≡ true → q < n) → length xs ≤ n
few_places n xs apart below = length-le_from_distinct_below xs n (distinct xs apart) (λ q h. below q h)

pub has_later : (n x : ℕ) (xs : List ℕ) → n ≢ x → has n (x ∷ xs) ≡ true → has n xs ≡ true
has_later n x xs other h = grind arith
