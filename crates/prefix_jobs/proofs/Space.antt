-- Cubes that are apart weigh no more than the space: each weighs as many projected assignments as it holds.
use Rattle.std.proofs.Common.{◌≡◌, ℕ, zero, suc, ◌+◌, ◌-◌, ◌^◌, ◌<◌, ◌≤◌, Bool, true, false, not, ◌&&◌, cond, nat_eq, nat_lt, ℤ, pos, negsuc, nat_abs, List, [], ◌∷◌, length, refl, sym, ap, ap₂, subst, ◌∙◌, inl, inr, arith, pow-suc}
use Rattle.std.specs.List.{All, AllPairs, list_all}
use Rattle.std.specs.List.Sorted.{IsStrictlyIncreasing}
use Rattle.std.proofs.lemmas.Bool.{and_parts, and_from, or_cases, both_ways, cases_eq, eq-eqb, eqb-true, ne_eqb, ltb-true, lt-ltb}
use Rattle.std.proofs.lemmas.List.Elements.{All-head, All-tail}
use Rattle.sat_terms.specs.Literals.{lit_true}
use Rattle.sat_terms.specs.Truth.{holds}
use Rattle.sat_terms.specs.Assignments.{assignment_of}
use Rattle.sat_terms.specs.Cubes.{IsCube, is_among, rises_above, apart}
use Rattle.sat_terms.proofs.CubeLemmas.{rises_above-head, rises_above-tail}
use Rattle.sat_terms.proofs.Disjoint.{holds-agree}
use Rattle.search_region.specs.Cubes.{hit, hits}
use Rattle.search_region.proofs.Counts.{counts_from_apart}
use Rattle.search_region.proofs.ReadCube.{rises, rises_from_increasing}
use Rattle.search_job.specs.Weights.{weight, weights}

-- the sum over all lists of n values
abbrev pub sum_all : ℕ → (List Bool → ℕ) → ℕ
sum_all zero g = g []
sum_all (suc n) g = sum_all n (λ a. g (true ∷ a)) + sum_all n (λ a. g (false ∷ a))

sum_same : (n : ℕ) (g h : List Bool → ℕ) → ((a : List Bool) → g a ≡ h a) → sum_all n g ≡ sum_all n h
sum_same zero g h e = e []
sum_same (suc n) g h e = ap₂ (λ x y. x + y) (sum_same n (λ a. g (true ∷ a)) (λ a. h (true ∷ a)) (λ a. e (true ∷ a))) (sum_same n (λ a. g (false ∷ a)) (λ a. h (false ∷ a)) (λ a. e (false ∷ a)))

sum_none : (n : ℕ) → sum_all n (λ a. 0) ≡ 0
sum_none zero = refl
sum_none (suc n) = let before = sum_none n in omega arith

sum_few : (n : ℕ) (g : List Bool → ℕ) → ((a : List Bool) → g a ≤ 1) → sum_all n g ≤ 2 ^ n
sum_few zero g h = let one = h [] in omega arith
sum_few (suc n) g h =
    let first = sum_few n (λ a. g (true ∷ a)) (λ a. h (true ∷ a)) in
    let second = sum_few n (λ a. g (false ∷ a)) (λ a. h (false ∷ a)) in
    rw pow-suc (omega arith)

sum_plus : (n : ℕ) (g h : List Bool → ℕ) → sum_all n (λ a. g a + h a) ≡ sum_all n g + sum_all n h
sum_plus zero g h = refl
sum_plus (suc n) g h =
    let first = sum_plus n (λ a. g (true ∷ a)) (λ a. h (true ∷ a)) in
    let second = sum_plus n (λ a. g (false ∷ a)) (λ a. h (false ∷ a)) in
    omega arith

-- ---- a cube over the later variables doesn't see the first one

abbrev pub over_all : List ℕ → List ℤ → Bool
over_all p c = list_all (λ l. is_among p (nat_abs l)) c

among_above : (n v : ℕ) (p : List ℕ) → rises n p ≡ true → is_among p v ≡ true → n < v
among_above n v [] r h = absurd (both_ways false refl h)
among_above n v (w ∷ p) r h =
    let (above, rest) = and_parts (nat_lt n w) (rises w p) r in
    let high = ltb-true n w above in
    elim (or_cases (nat_eq v w) (is_among p v) h) [
      | inl same ↦ let e = eqb-true v w same in omega arith
      | inr later ↦ let more = among_above w v p rest later in omega arith
    ]

-- literals that rise above the first variable are of the later ones
over_later : (q : ℕ) (p : List ℕ) (n : ℕ) (c : List ℤ) → q ≤ n → rises_above n c ≡ true → over_all (q ∷ p) c ≡ true → over_all p c ≡ true
over_later q p n [] low r o = refl
over_later q p n (l ∷ c) low r o =
    let (here, rest) = and_parts (is_among (q ∷ p) (nat_abs l)) (over_all (q ∷ p) c) o in
    let above = rises_above-head n l c r in
    and_from (is_among p (nat_abs l)) (over_all p c)
    (elim (or_cases (nat_eq (nat_abs l) q) (is_among p (nat_abs l)) here) [
      | inl same ↦ let e = eqb-true (nat_abs l) q same in absurd (omega arith)
      | inr later ↦ later
    ])
    (over_later q p (nat_abs l) c (omega arith) (rises_above-tail n l c r) rest)

later_same : (q : ℕ) (p : List ℕ) (b : Bool) (a : List Bool) (c : List ℤ) → rises q p ≡ true → over_all p c ≡ true → holds (assignment_of (q ∷ p) (b ∷ a)) c ≡ holds (assignment_of p a) c
later_same q p b a c r o = holds-agree (assignment_of (q ∷ p) (b ∷ a)) (assignment_of p a) p c o
    (λ v among. let above = among_above q v p r among in rw (ne_eqb v q (λ same. omega arith)) refl)

-- a cube has no more literals than there are variables
cube_short : (n : ℕ) (p : List ℕ) (c : List ℤ) → rises n p ≡ true → rises_above n c ≡ true → over_all p c ≡ true → length c ≤ length p
cube_short n p [] r rc o = omega arith
cube_short n [] (l ∷ c) r rc o = absurd (both_ways false refl (and_parts false (over_all [] c) o).0)
cube_short n (q ∷ p) (l ∷ c) r rc o =
    let (above, rest) = and_parts (nat_lt n q) (rises q p) r in
    let (here, others) = and_parts (is_among (q ∷ p) (nat_abs l)) (over_all (q ∷ p) c) o in
    let first : q ≤ nat_abs l = elim (or_cases (nat_eq (nat_abs l) q) (is_among p (nat_abs l)) here) [
      | inl same ↦ let e = eqb-true (nat_abs l) q same in omega arith
      | inr later ↦ let more = among_above q (nat_abs l) p rest later in omega arith
    ] in
    let fewer = cube_short q p c rest (lower q (nat_abs l) c first (rises_above-tail n l c rc)) (over_later q p (nat_abs l) c first (rises_above-tail n l c rc) others) in
    omega arith
  where
    lower : (m k : ℕ) (d : List ℤ) → m ≤ k → rises_above k d ≡ true → rises_above m d ≡ true
    lower m k [] low h = refl
    lower m k (e ∷ d) low h =
        let (now, later) = and_parts (nat_lt k (nat_abs e)) (rises_above (nat_abs e) d) h in
        and_from (nat_lt m (nat_abs e)) (rises_above (nat_abs e) d) (let up = ltb-true k (nat_abs e) now in lt-ltb m (nat_abs e) (omega arith)) later

-- ---- a cube holds as many assignments as it weighs

twice : (k : ℕ) → 2 ^ suc k ≡ 2 ^ k + 2 ^ k
twice k = rw pow-suc (omega arith)

-- the value that makes the literal true
says : ℤ → Bool → Bool
says (pos v) b = b
says (negsuc v) b = not b

module _ (q : ℕ) (p : List ℕ) (c : List ℤ) (r : rises q p ≡ true) (o : over_all p c ≡ true) where
  -- the first variable doesn't matter
  half_same : (b : Bool) → sum_all (length p) (λ a. hit (assignment_of (q ∷ p) (b ∷ a)) c) ≡ sum_all (length p) (λ a. hit (assignment_of p a) c)
  half_same b = sum_same (length p) (λ a. hit (assignment_of (q ∷ p) (b ∷ a)) c) (λ a. hit (assignment_of p a) c) (λ a. ap (λ x. cond {A = ℕ} x 1 0) (later_same q p b a c r o))

  -- with a literal of it just one half counts
  first_value : (l : ℤ) → nat_abs l ≡ q → (b : Bool) (a : List Bool) → lit_true (assignment_of (q ∷ p) (b ∷ a)) l ≡ says l b
  unfolding says
  first_value (pos v) same b a = rw (eq-eqb v q same) refl
  first_value (negsuc v) same b a = rw (eq-eqb (suc v) q same) refl

  half_said : (l : ℤ) → nat_abs l ≡ q → (b : Bool) → says l b ≡ true → sum_all (length p) (λ a. hit (assignment_of (q ∷ p) (b ∷ a)) (l ∷ c)) ≡ sum_all (length p) (λ a. hit (assignment_of p a) c)
  half_said l same b said = sum_same (length p) (λ a. hit (assignment_of (q ∷ p) (b ∷ a)) (l ∷ c)) (λ a. hit (assignment_of p a) c)
      (λ a. ap₂ (λ x y. cond {A = ℕ} (x && y) 1 0) (first_value l same b a ∙ said) (later_same q p b a c r o))

  half_unsaid : (l : ℤ) → nat_abs l ≡ q → (b : Bool) → says l b ≡ false → sum_all (length p) (λ a. hit (assignment_of (q ∷ p) (b ∷ a)) (l ∷ c)) ≡ 0
  half_unsaid l same b unsaid = sum_same (length p) (λ a. hit (assignment_of (q ∷ p) (b ∷ a)) (l ∷ c)) (λ a. 0)
      (λ a. ap (λ x. cond {A = ℕ} (x && holds (assignment_of (q ∷ p) (b ∷ a)) c) 1 0) (first_value l same b a ∙ unsaid)) ∙ sum_none (length p)

  halves : (l : ℤ) → nat_abs l ≡ q → sum_all (suc (length p)) (λ a. hit (assignment_of (q ∷ p) a) (l ∷ c)) ≡ sum_all (length p) (λ a. hit (assignment_of p a) c)
  unfolding says
  halves (pos v) same = let on = half_said (pos v) same true refl in let off = half_unsaid (pos v) same false refl in omega arith
  halves (negsuc v) same = let on = half_said (negsuc v) same false refl in let off = half_unsaid (negsuc v) same true refl in omega arith

sum_hits : (n : ℕ) (p : List ℕ) (c : List ℤ) → rises n p ≡ true → rises_above n c ≡ true → over_all p c ≡ true → sum_all (length p) (λ a. hit (assignment_of p a) c) ≡ weight (length p) c
sum_hits n [] [] r rc o = refl
sum_hits n [] (l ∷ c) r rc o = absurd (both_ways false refl (and_parts false (over_all [] c) o).0)
sum_hits n (q ∷ p) [] r rc o =
    let (above, rest) = and_parts (nat_lt n q) (rises q p) r in
    let on : sum_all (length p) (λ a. hit (assignment_of (q ∷ p) (true ∷ a)) []) ≡ weight (length p) [] = sum_hits q p [] rest refl refl in
    let off : sum_all (length p) (λ a. hit (assignment_of (q ∷ p) (false ∷ a)) []) ≡ weight (length p) [] = sum_hits q p [] rest refl refl in
    let whole : weight (suc (length p)) [] ≡ 2 ^ suc (length p) = ap (λ k. 2 ^ k) (omega arith) in
    let half : weight (length p) [] ≡ 2 ^ length p = ap (λ k. 2 ^ k) (omega arith) in
    let double = twice (length p) in
    omega arith
sum_hits n (q ∷ p) (l ∷ c) r rc o =
    let (above, rest) = and_parts (nat_lt n q) (rises q p) r in
    let (here, others) = and_parts (is_among (q ∷ p) (nat_abs l)) (over_all (q ∷ p) c) o in
    elim (cases_eq (nat_abs l) q) [
      | inl same ↦
          let later : over_all p c ≡ true = over_later q p (nat_abs l) c (omega arith) (rises_above-tail n l c rc) others in
          halves q p c rest later l same
          ∙ sum_hits q p c rest (subst (λ v. rises_above v c ≡ true) same (rises_above-tail n l c rc)) later
          ∙ ap (λ k. 2 ^ k) (omega arith)
      | inr other ↦
          let among : is_among p (nat_abs l) ≡ true = rw (ne_eqb (nat_abs l) q other) at here in
          let high = among_above q (nat_abs l) p rest among in
          let rises_on : rises_above q (l ∷ c) ≡ true = and_from (nat_lt q (nat_abs l)) (rises_above (nat_abs l) c) (lt-ltb q (nat_abs l) high) (rises_above-tail n l c rc) in
          let later : over_all p (l ∷ c) ≡ true = and_from (is_among p (nat_abs l)) (over_all p c) among (over_later q p (nat_abs l) c (omega arith) (rises_above-tail n l c rc) others) in
          let whole = sum_hits q p (l ∷ c) rest rises_on later in
          let on = half_same q p (l ∷ c) rest later true in
          let off = half_same q p (l ∷ c) rest later false in
          let short = cube_short q p (l ∷ c) rest rises_on later in
          let next : weight (suc (length p)) (l ∷ c) ≡ 2 ^ suc (length p - length (l ∷ c)) = ap (λ k. 2 ^ k) (omega arith) in
          let double = twice (length p - length (l ∷ c)) in
          omega arith
    ]

-- ---- so a list of cubes that are apart does

sum_weights : (n : ℕ) (p : List ℕ) (cubes : List (List ℤ)) → rises n p ≡ true → All (λ c. (rises_above n c ≡ true) × (over_all p c ≡ true)) cubes → weights (length p) cubes ≡ sum_all (length p) (λ a. hits (assignment_of p a) cubes)
sum_weights n p [] r all = sym (sum_none (length p))
sum_weights n p (c ∷ cubes) r all =
    let here = All-head (λ d. (rises_above n d ≡ true) × (over_all p d ≡ true)) c cubes all in
    let rest = sum_weights n p cubes r (All-tail (λ d. (rises_above n d ≡ true) × (over_all p d ≡ true)) c cubes all) in
    let one = sum_hits n p c r here.0 here.1 in
    let both = sum_plus (length p) (λ a. hit (assignment_of p a) c) (λ a. hits (assignment_of p a) cubes) in
    omega arith

pub apart_cubes_weigh_little : (p : List ℕ) (cubes : List (List ℤ)) → IsStrictlyIncreasing p → All (λ v. 0 < v) p → All (IsCube p) cubes → AllPairs (λ c d. apart c d ≡ true) cubes → weights (length p) cubes ≤ 2 ^ length p
apart_cubes_weigh_little p cubes up named all pairs =
    let same = sum_weights 0 p cubes (rises_from_increasing 0 p up (λ h. named 0 0 h)) (λ k d inside. ((all k d inside).rising, (all k d inside).over)) in
    let few = sum_few (length p) (λ a. hits (assignment_of p a) cubes) (λ a. counts_from_apart (assignment_of p a) cubes (λ k d inside. (all k d inside).rising) pairs) in
    omega arith
