-- Lists of variables: who is among them, and that they rise.
use Rattle.std.proofs.Common.{◌≡◌, ℕ, zero, suc, ◌+◌, ◌<◌, ◌≤◌, Bool, true, false, ◌&&◌, nat_eq, List, [], ◌∷◌, ◌++◌, take, filter, refl, sym, ap, subst, ◌∙◌, inl, inr, arith}
use Rattle.std.specs.List.{All, AllPairs, list_all, range_with_len}
use Rattle.std.proofs.lemmas.Bool.{and_parts, and_from, or_cases, or_left, or_right, both_ways, cases_Bool, eqb-true, eq-eqb}
use Rattle.sat_terms.specs.Cubes.{is_among}

-- the numbers rise
abbrev pub Rise : List ℕ → Type 0
Rise xs = AllPairs (λ x y. x < y) xs

pub rise_tail : (x : ℕ) (xs : List ℕ) → Rise (x ∷ xs) → Rise xs
rise_tail x xs r = λ i j d below inside. r (suc i) (suc j) d (omega arith) (omega arith)

pub rise_head : (x : ℕ) (xs : List ℕ) → Rise (x ∷ xs) → All (λ y. x < y) xs
rise_head x xs r = λ k d inside. r zero (suc k) d (omega arith) (omega arith)

-- a test that holds of each holds of the one among them
pub holds_among : (p : ℕ → Bool) (xs : List ℕ) (v : ℕ) → list_all p xs ≡ true → is_among xs v ≡ true → p v ≡ true
holds_among p [] v all among = cc
holds_among p (x ∷ xs) v all among =
    let (now, rest) = and_parts (p x) (list_all p xs) all in
    elim (or_cases (nat_eq v x) (is_among xs v) among) [
      | inl same ↦ subst (λ u. p u ≡ true) (sym (eqb-true v x same)) now
      | inr later ↦ holds_among p xs v rest later
    ]

pub all_among : (p : ℕ → Bool) (xs : List ℕ) → ((v : ℕ) → is_among xs v ≡ true → p v ≡ true) → list_all p xs ≡ true
all_among p [] h = refl
all_among p (x ∷ xs) h =
    and_from (p x) (list_all p xs) (h x (or_left (nat_eq x x) (is_among xs x) (eq-eqb x x refl)))
    (all_among p xs (λ v among. h v (or_right (nat_eq v x) (is_among xs v) among)))

-- who is among the first ones is among them all, and among more of them
pub among_more : (xs : List ℕ) (k m v : ℕ) → k ≤ m → is_among (take k xs) v ≡ true → is_among (take m xs) v ≡ true
among_more [] zero m v low among = absurd (both_ways false refl among)
among_more [] (suc k) m v low among = absurd (both_ways false refl among)
among_more (x ∷ xs) zero m v low among = absurd (both_ways false refl among)
among_more (x ∷ xs) (suc k) zero v low among = absurd (omega arith)
among_more (x ∷ xs) (suc k) (suc m) v low among = elim (or_cases (nat_eq v x) (is_among (take k xs) v) among) [
  | inl same ↦ or_left (nat_eq v x) (is_among (take m xs) v) same
  | inr later ↦ or_right (nat_eq v x) (is_among (take m xs) v) (among_more xs k m v (omega arith) later)
]

among_first : (p : ℕ → Bool) (xs : List ℕ) (u : ℕ) → is_among (filter p xs) u ≡ (p u && is_among xs u) →
    is_among (filter p (u ∷ xs)) u ≡ (p u && is_among (u ∷ xs) u)
among_first p xs u later = elim (cases_Bool (p u)) [
  | inl kept ↦ rw (kept, eq-eqb u u refl) refl
  | inr gone ↦ rw gone (later ∙ ap (λ b. b && is_among xs u) gone)
]

pub among-filter : (p : ℕ → Bool) (xs : List ℕ) (v : ℕ) → is_among (filter p xs) v ≡ (p v && is_among xs v)
among-filter p [] v = none (p v)
  where
    none : (b : Bool) → false ≡ (b && false)
    none true = refl
    none false = refl
among-filter p (x ∷ xs) v = elim (cases_Bool (nat_eq v x)) [
  | inl same ↦ subst (λ u. is_among (filter p (u ∷ xs)) v ≡ (p v && is_among (u ∷ xs) v)) (eqb-true v x same) (among_first p xs v (among-filter p xs v))
  | inr other ↦ elim (cases_Bool (p x)) [
    | inl kept ↦ rw (kept, other) (among-filter p xs v)
    | inr gone ↦ rw (gone, other) (among-filter p xs v)
  ]
]

-- ---- the variables 1 to n

pub range_more : (a n : ℕ) → range_with_len a (n + 1) ≡ range_with_len a n ++ (a + n) ∷ []
range_more a zero = ap (λ m. m ∷ []) (omega arith)
range_more a (suc n) =
    let plain : suc n + 1 ≡ suc (n + 1) = omega arith in
    ap (range_with_len a) plain ∙ ap (λ xs. a ∷ xs) (range_more (a + 1) n)
    ∙ ap (λ m. a ∷ (range_with_len (a + 1) n ++ m ∷ [])) (omega arith)

pub among_range : (a n v : ℕ) → a ≤ v → v < a + n → is_among (range_with_len a n) v ≡ true
among_range a zero v low high = absurd (omega arith)
among_range a (suc n) v low high = elim (cases_Bool (nat_eq v a)) [
  | inl same ↦ or_left (nat_eq v a) (is_among (range_with_len (a + 1) n) v) same
  | inr other ↦ or_right (nat_eq v a) (is_among (range_with_len (a + 1) n) v)
      (let apart = λ (e : v ≡ a). both_ways (nat_eq v a) other (eq-eqb v a e) in
      among_range (a + 1) n v (omega arith) (omega arith))
]

pub range_among : (a n v : ℕ) → is_among (range_with_len a n) v ≡ true → (a ≤ v) × (v < a + n)
range_among a zero v among = absurd (both_ways false refl among)
range_among a (suc n) v among = elim (or_cases (nat_eq v a) (is_among (range_with_len (a + 1) n) v) among) [
  | inl same ↦ let e = eqb-true v a same in (omega arith, omega arith)
  | inr later ↦ let (low, high) = range_among (a + 1) n v later in (omega arith, omega arith)
]
