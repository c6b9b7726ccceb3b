-- The drill is a formula as every search takes it.
use Rattle.std.proofs.Common.{◌≡◌, ℕ, zero, suc, ◌+◌, ◌*◌, ◌%◌, ◌<◌, ◌≤◌, ◌==◌, nat_lt, List, [], ◌∷◌, ◌++◌, length, length-append, ℤ, pos, neg_ℤ, refl, sym, ap, subst, ◌∙◌, inl, inr, arith}
use Rattle.std.specs.List.{All, range_with_len}
use Rattle.std.specs.List.Sorted.{IsStrictlyIncreasing}
use Rattle.std.proofs.lemmas.Bool.{cases_Bool}
use Rattle.std.proofs.lemmas.List.Elements.{All-nil, All-cons, All-append, All-weaker}
use Rattle.std.proofs.lemmas.List.FromFn.{length-range_with_len, get_or-range_with_len}
use Rattle.std.proofs.lemmas.List.Sums.{sum_by-le}
use Rattle.sat_terms.specs.Literals.{IsLiteralOf}
use Rattle.drill.specs.Drills.{drill_row, drill_rows, first_variables, DrillsAreSubjects}

-- a clause of two literals of the variables 1 to n
pub record IsPair (n : ℕ) (c : List ℤ) : Type 0 where
  pub long : length c ≤ 2
  pub named : All (IsLiteralOf n) c

pair_is : (n : ℕ) (a b : ℤ) → IsLiteralOf n a → IsLiteralOf n b → IsPair n (a ∷ b ∷ [])
pair_is n a b one other = record {
  long = omega arith;
  named = All-cons (IsLiteralOf n) a (b ∷ []) one (All-cons (IsLiteralOf n) b [] other (All-nil (IsLiteralOf n)));
}

one_pair : (n : ℕ) (c : List ℤ) → IsPair n c → All (IsPair n) (c ∷ [])
one_pair n c fits = All-cons (IsPair n) c [] fits (All-nil (IsPair n))

two_pairs : (n : ℕ) (c d : List ℤ) → IsPair n c → IsPair n d → All (IsPair n) (c ∷ d ∷ [])
two_pairs n c d one other = All-cons (IsPair n) c (d ∷ []) one (one_pair n d other)

plain : (n v : ℕ) → 0 < v → v ≤ n → IsLiteralOf n (pos v)
plain n v some few = (some, few)

negated : (n v : ℕ) → 0 < v → v ≤ n → IsLiteralOf n (neg_ℤ (pos v))
negated n zero some few = absurd (omega arith)
negated n (suc v) some few = (some, few)

module _ (k i : ℕ) (some : 0 < i) (few : i ≤ k) where
  shown : IsLiteralOf (k + k) (pos i)
  shown = plain (k + k) i some (omega arith)

  not_shown : IsLiteralOf (k + k) (neg_ℤ (pos i))
  not_shown = negated (k + k) i some (omega arith)

  hidden : IsLiteralOf (k + k) (pos (k + i))
  hidden = plain (k + k) (k + i) (omega arith) (omega arith)

  not_hidden : IsLiteralOf (k + k) (neg_ℤ (pos (k + i)))
  not_hidden = negated (k + k) (k + i) (omega arith) (omega arith)

  row_pairs : All (IsPair (k + k)) (drill_row k i)
  row_pairs = elim (cases_Bool (i % 4 == 1)) [
    | inl one ↦ rw one (elim (cases_Bool (nat_lt i k)) [
      | inl below ↦ rw below (one_pair (k + k) (pos i ∷ pos (i + 1) ∷ []) (pair_is (k + k) (pos i) (pos (i + 1)) shown (plain (k + k) (i + 1) (omega arith) (omega arith))))
      | inr last ↦ rw last (All-nil (IsPair (k + k)))
    ])
    | inr no_one ↦ elim (cases_Bool (i % 4 == 2)) [
      | inl two ↦ rw (no_one, two) (one_pair (k + k) _ (pair_is (k + k) _ _ not_shown hidden))
      | inr no_two ↦ elim (cases_Bool (i % 4 == 3)) [
        | inl three ↦ rw (no_one, no_two, three) (two_pairs (k + k) _ _ (pair_is (k + k) _ _ not_shown hidden) (pair_is (k + k) _ _ not_shown not_hidden))
        | inr no_three ↦ rw (no_one, no_two, no_three) (two_pairs (k + k) _ _ (pair_is (k + k) _ _ shown hidden) (pair_is (k + k) _ _ shown not_hidden))
      ]
    ]
  ]

row_short : (k i : ℕ) → length (drill_row k i) ≤ 2
row_short k i = elim (cases_Bool (i % 4 == 1)) [
  | inl one ↦ rw one (elim (cases_Bool (nat_lt i k)) [
    | inl below ↦ rw below (omega arith)
    | inr last ↦ rw last (omega arith)
  ])
  | inr no_one ↦ elim (cases_Bool (i % 4 == 2)) [
    | inl two ↦ rw (no_one, two) (omega arith)
    | inr no_two ↦ elim (cases_Bool (i % 4 == 3)) [
      | inl three ↦ rw (no_one, no_two, three) (omega arith)
      | inr no_three ↦ rw (no_one, no_two, no_three) (omega arith)
    ]
  ]
]

pub rows_pairs : (k i : ℕ) → i ≤ k → All (IsPair (k + k)) (drill_rows k i)
rows_pairs k zero few = All-nil (IsPair (k + k))
rows_pairs k (suc i) few =
    All-append (IsPair (k + k)) (drill_rows k i) (drill_row k (suc i)) (rows_pairs k i (omega arith))
    (row_pairs k (suc i) (omega arith) few)

pub rows_short : (k i : ℕ) → length (drill_rows k i) ≤ i * 2
rows_short k zero = omega arith
rows_short k (suc i) =
    let before = rows_short k i in
    let here = row_short k (suc i) in
    let both = length-append (drill_rows k i) (drill_row k (suc i)) in
    omega arith

-- ---- the shown variables

range-snoc : (a n : ℕ) → range_with_len a (suc n) ≡ range_with_len a n ++ (a + n) ∷ []
range-snoc a zero = let same : a ≡ a + 0 = omega arith in ap (λ x. x ∷ []) same
range-snoc a (suc n) =
    let same : a + 1 + n ≡ a + suc n = omega arith in
    ap (λ xs. a ∷ xs) (range-snoc (a + 1) n ∙ ap (λ x. range_with_len (a + 1) n ++ x ∷ []) same)

first_range : (n : ℕ) → first_variables n ≡ range_with_len 1 n
first_range zero = refl
first_range (suc n) =
    let same : suc n ≡ 1 + n = omega arith in
    ap (λ xs. xs ++ suc n ∷ []) (first_range n)
    ∙ ap (λ x. range_with_len 1 n ++ x ∷ []) same
    ∙ sym (range-snoc 1 n)

range_rises : (a n : ℕ) → IsStrictlyIncreasing (range_with_len a n)
range_rises a n = λ k lt.
    let size = length-range_with_len a n in
    let here = get_or-range_with_len a n k 0 (omega arith) in
    let next = get_or-range_with_len a n (k + 1) 0 (omega arith) in
    omega arith

range_named : (n m : ℕ) → n ≤ m → All (λ v. (0 < v) × (v ≤ m)) (range_with_len 1 n)
range_named n m few = λ k d lt.
    let size = length-range_with_len 1 n in
    let here = get_or-range_with_len 1 n k d (omega arith) in
    (omega arith, omega arith)

pub drills_are_subjects : DrillsAreSubjects
drills_are_subjects k few =
    let pairs = rows_pairs k k (omega arith) in
    let short = rows_short k k in
    let sum = sum_by-le length 2 (drill_rows k k) (All-weaker (IsPair (k + k)) (λ c. length c ≤ 2) (λ c h. h.long) (drill_rows k k) pairs) in
    record {
      formula = record {
        variables = omega arith;
        clauses = omega arith;
        literals = omega arith;
        named = All-weaker (IsPair (k + k)) (All (IsLiteralOf (k + k))) (λ c h. h.named) (drill_rows k k) pairs;
      };
      shown = record {
        rising = subst IsStrictlyIncreasing (sym (first_range k)) (range_rises 1 k);
        named = subst (All (λ v. (0 < v) × (v ≤ k + k))) (sym (first_range k)) (range_named k (k + k) (omega arith));
      };
      under = record { rising = refl; over = refl };
    }
