-- The order of numbers.
use Rattle.std.proofs.Common.{◌≡◌, ℕ, ◌<◌, true, ◌&&◌, nat_eq, nat_lt, sym, ap₂, ◌⊎◌, inl, inr, arith}
use Rattle.std.proofs.lemmas.Bool.{and_parts, and_from, or_cases, or_left, or_right, false_from_ne_true, eq-eqb, eqb-true, lt-ltb, ltb-true, cases_order}
use Rattle.prefix_jobs.specs.declared.number.Number.{Number}
use Rattle.prefix_jobs.specs.Numbers.{is_before}
use Rattle.prefix_jobs.specs.Laws.{IsNumberOrder}

below : (m n : Number) → is_before m n ≡ true → (m.place < n.place) ⊎ ((m.place ≡ n.place) × (m.index < n.index))
below m n h = elim (or_cases (nat_lt m.place n.place) (nat_eq m.place n.place && nat_lt m.index n.index) h) [
  | inl less ↦ inl (ltb-true m.place n.place less)
  | inr both ↦ let (same, less) = and_parts (nat_eq m.place n.place) (nat_lt m.index n.index) both in inr (eqb-true m.place n.place same, ltb-true m.index n.index less)
]

by_place : (m n : Number) → m.place < n.place → is_before m n ≡ true
by_place m n h = or_left (nat_lt m.place n.place) (nat_eq m.place n.place && nat_lt m.index n.index) (lt-ltb m.place n.place h)

by_index : (m n : Number) → m.place ≡ n.place → m.index < n.index → is_before m n ≡ true
by_index m n same h = or_right (nat_lt m.place n.place) (nat_eq m.place n.place && nat_lt m.index n.index) (and_from (nat_eq m.place n.place) (nat_lt m.index n.index) (eq-eqb m.place n.place same) (lt-ltb m.index n.index h))

pub numbers_are_ordered : (l m n : Number) → IsNumberOrder l m n
numbers_are_ordered l m n = record {
  never_itself = false_from_ne_true (is_before n n) (λ h. elim (below n n h) [ inl less ↦ omega arith | inr both ↦ let less = both.1 in omega arith ]);
  goes_on = λ h g. elim (below l m h) [
    | inl first ↦ elim (below m n g) [
      | inl second ↦ by_place l n (omega arith)
      | inr second ↦ let same = second.0 in by_place l n (omega arith)
    ]
    | inr first ↦ let same_first = first.0 in let less_first = first.1 in elim (below m n g) [
      | inl second ↦ by_place l n (omega arith)
      | inr second ↦ let same = second.0 in let less = second.1 in by_index l n (omega arith) (omega arith)
    ]
  ];
  total = elim (cases_order m.place n.place) [
    | inl same ↦ elim (cases_order m.index n.index) [
      | inl alike ↦ inl (both same alike)
      | inr other ↦ elim other [
        | inl less ↦ inr (inl (by_index m n same less))
        | inr more ↦ inr (inr (by_index n m (sym same) more))
      ]
    ]
    | inr other ↦ elim other [
      | inl less ↦ inr (inl (by_place m n less))
      | inr more ↦ inr (inr (by_place n m more))
    ]
  ];
}
  where
    both : m.place ≡ n.place → m.index ≡ n.index → m ≡ n
    both same alike = let make : ℕ → ℕ → Number = λ x y. record { place = x; index = y } in ap₂ make same alike
