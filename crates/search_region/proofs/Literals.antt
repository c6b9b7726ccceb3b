-- A literal and its negation; tests that hold of each element of a list.
use Rattle.std.proofs.Common.{◌≡◌, zero, suc, Bool, true, false, ℤ, pos, negsuc, neg_ℤ, nat_abs, List, [], ◌∷◌, refl, ap, inl, inr, arith, ◌⊎◌}
use Rattle.std.specs.List.{list_any, list_all}
use Rattle.std.specs.Ordering.{int_eq}
use Rattle.std.proofs.lemmas.Bool.{and_parts, and_from, or_cases, or_left, or_right, both_ways}
use Rattle.std.proofs.lemmas.Bool.Decides.{Decides-int_eq}

-- the two literals of a variable
pub same_variable : (l m : ℤ) → nat_abs l ≡ nat_abs m → (l ≡ m) ⊎ (l ≡ neg_ℤ m)
same_variable (pos n) (pos zero) e = inl (ap pos e)
same_variable (pos n) (pos (suc m)) e = inl (ap pos e)
same_variable (pos n) (negsuc m) e = inr (ap pos e)
same_variable (negsuc n) (pos zero) e = absurd (omega arith)
same_variable (negsuc n) (pos (suc m)) e = inr (ap negsuc (omega arith))
same_variable (negsuc n) (negsuc m) e = inl (ap negsuc (omega arith))

pub test_from_same : (l m : ℤ) → l ≡ m → int_eq l m ≡ true
test_from_same l m = (Decides-int_eq l m).1

pub all_weaker : {X : Type 0} (p q : X → Bool) → ((x : X) → p x ≡ true → q x ≡ true) → (xs : List X) → list_all p xs ≡ true → list_all q xs ≡ true
all_weaker p q h [] e = refl
all_weaker p q h (x ∷ xs) e =
    let (a, b) = and_parts (p x) (list_all p xs) e in
    and_from (q x) (list_all q xs) (h x a) (all_weaker p q h xs b)

pub any_weaker : {X : Type 0} (p q : X → Bool) → ((x : X) → p x ≡ true → q x ≡ true) → (xs : List X) → list_any p xs ≡ true → list_any q xs ≡ true
any_weaker p q h [] e = cc
any_weaker p q h (x ∷ xs) e =
    elim (or_cases (p x) (list_any p xs) e) [
      | inl a ↦ or_left (q x) (list_any q xs) (h x a)
      | inr b ↦ or_right (q x) (list_any q xs) (any_weaker p q h xs b)
    ]

-- some element passes p, each passes q, and none passes both
pub none_both : {X : Type 0} (p q : X → Bool) → ((x : X) → p x ≡ true → q x ≡ true → ⊥) → (xs : List X) → list_any p xs ≡ true → list_all q xs ≡ true → ⊥
none_both p q h [] e a = both_ways false refl e
none_both p q h (x ∷ xs) e a =
    let (now, rest) = and_parts (q x) (list_all q xs) a in
    elim (or_cases (p x) (list_any p xs) e) [
      | inl b ↦ h x b now
      | inr b ↦ none_both p q h xs b rest
    ]
