-- Literals of rising variables, for each at most one, make a cube over these.
use Rattle.std.proofs.Common.{◌≡◌, ℕ, zero, suc, ◌+◌, ◌<◌, ◌≤◌, ◌^◌, Bool, true, false, cond, ◌&&◌, ◌||◌, List, [], ◌∷◌, ◌++◌, length, ℤ, pos, nat_abs, refl, sym, subst, ap, ◌∙◌, arith}
use Rattle.std.specs.Prelude.{flat_map, get_or, nat_eq, nat_lt, neg_ℤ}
use Rattle.std.specs.List.{All, list_all}
use Rattle.std.specs.List.Sorted.{IsStrictlyIncreasing}
use Rattle.std.proofs.lemmas.Bool.{and_parts, and_from, or_right, lt-ltb, ltb-true}
use Rattle.std.proofs.lemmas.Cmp.{nat_eq_equiv}
use Rattle.std.proofs.lemmas.List.Elements.{All-nil, All-push, All-append, All-head, All-tail}
use Rattle.sat_terms.specs.Literals.{IsLiteral}
use Rattle.sat_terms.specs.Cubes.{IsCube, is_among, rises_above}

abbrev pub rises : ℕ → List ℕ → Bool
rises n [] = true
rises n (v ∷ p) = nat_lt n v && rises v p

pub rises_from_increasing : (n : ℕ) (p : List ℕ) → IsStrictlyIncreasing p → (0 < length p → n < get_or p 0 0) → rises n p ≡ true
rises_from_increasing n [] up h = refl
rises_from_increasing n (v ∷ p) up h =
    and_from (nat_lt n v) (rises v p) (lt-ltb n v (h (omega arith)))
    (rises_from_increasing v p (λ k g. let next : suc k + 1 ≡ suc (k + 1) = omega arith in subst (λ m. get_or p k 0 < get_or (v ∷ p) m 0) next (up (suc k) (omega arith)))
    (λ g. let one : 0 + 1 ≡ suc 0 = omega arith in subst (λ m. v < get_or (v ∷ p) m 0) one (up 0 (omega arith))))

rises_lower : (m n : ℕ) (c : List ℤ) → n ≤ m → rises_above m c ≡ true → rises_above n c ≡ true
rises_lower m n [] h r = refl
rises_lower m n (l ∷ c) h r =
    let (now, rest) = and_parts (nat_lt m (nat_abs l)) (rises_above (nat_abs l) c) r in
    and_from (nat_lt n (nat_abs l)) (rises_above (nat_abs l) c) (let above = ltb-true m (nat_abs l) now in lt-ltb n (nat_abs l) (omega arith)) rest

neg_size : (v : ℕ) → nat_abs (neg_ℤ (pos v)) ≡ v
neg_size zero = refl
neg_size (suc v) = refl

-- the literal of a variable, by two tests
abbrev pub tested : Bool → Bool → ℕ → List ℤ
tested a b v = cond a (pos v ∷ []) (cond b (neg_ℤ (pos v) ∷ []) [])

module _ (p q : ℕ → Bool) where
  abbrev pub by_tests : ℕ → List ℤ
  by_tests v = tested (p v) (q v) v

  above_at : (n v : ℕ) (a b : Bool) (c : List ℤ) → nat_lt n v ≡ true → rises_above v c ≡ true →
      rises_above n (tested a b v ++ c) ≡ true
  above_at n v true b c lt h = and_from (nat_lt n v) (rises_above v c) lt h
  above_at n v false true c lt h =
      subst (λ m. (nat_lt n m && rises_above m c) ≡ true) (sym (neg_size v)) (and_from (nat_lt n v) (rises_above v c) lt h)
  above_at n v false false c lt h = rises_lower v n c (let g = ltb-true n v lt in omega arith) h

  rise_above : (n : ℕ) (vs : List ℕ) → rises n vs ≡ true → rises_above n (flat_map by_tests vs) ≡ true
  rise_above n [] r = refl
  rise_above n (v ∷ vs) r =
      let (now, rest) = and_parts (nat_lt n v) (rises v vs) r in
      above_at n v (p v) (q v) (flat_map by_tests vs) now (rise_above v vs rest)

  pub tested_rise : (vs : List ℕ) → IsStrictlyIncreasing vs → All (λ v. 0 < v) vs →
      rises_above 0 (flat_map by_tests vs) ≡ true
  tested_rise vs up named = rise_above 0 vs (rises_from_increasing 0 vs up (λ h. named 0 0 h))

  over_at : (us : List ℕ) (v : ℕ) (a b : Bool) (c : List ℤ) → is_among us v ≡ true →
      list_all (λ l. is_among us (nat_abs l)) c ≡ true →
      list_all (λ l. is_among us (nat_abs l)) (tested a b v ++ c) ≡ true
  over_at us v true b c here h = and_from (is_among us v) _ here h
  over_at us v false true c here h =
      and_from (is_among us (nat_abs (neg_ℤ (pos v)))) _ (ap (is_among us) (neg_size v) ∙ here) h
  over_at us v false false c here h = h

  over_all : (us vs : List ℕ) → ((v : ℕ) → is_among vs v ≡ true → is_among us v ≡ true) →
      list_all (λ l. is_among us (nat_abs l)) (flat_map by_tests vs) ≡ true
  over_all us [] h = refl
  over_all us (v ∷ vs) h =
      over_at us v (p v) (q v) (flat_map by_tests vs) (h v (ap (λ b. b || is_among vs v) (nat_eq_equiv.refl v)))
      (over_all us vs (λ w g. h w (or_right (nat_eq w v) (is_among vs w) g)))

  pub tested_cube : (vs : List ℕ) → IsStrictlyIncreasing vs → All (λ v. 0 < v) vs →
      IsCube vs (flat_map by_tests vs)
  tested_cube vs up named =
      record { rising = tested_rise vs up named; over = over_all vs vs (λ v h. h) }

  literals_at : (v : ℕ) (a b : Bool) → IsLiteral (pos v) → IsLiteral (neg_ℤ (pos v)) →
      All IsLiteral (tested a b v)
  literals_at v true b h k = All-push IsLiteral [] (pos v) (All-nil IsLiteral) h
  literals_at v false true h k = All-push IsLiteral [] (neg_ℤ (pos v)) (All-nil IsLiteral) k
  literals_at v false false h k = All-nil IsLiteral

  pub tested_literals : (vs : List ℕ) → All (λ v. (0 < v) × (v < 2 ^ 31)) vs →
      All IsLiteral (flat_map by_tests vs)
  tested_literals [] h = All-nil IsLiteral
  tested_literals (v ∷ vs) h =
      let here : (0 < v) × (v < 2 ^ 31) = All-head (λ u. (0 < u) × (u < 2 ^ 31)) v vs h in
      All-append IsLiteral (by_tests v) (flat_map by_tests vs)
      (literals_at v (p v) (q v) here (subst (λ m. (0 < m) × (m < 2 ^ 31)) (sym (neg_size v)) here))
      (tested_literals vs (All-tail (λ u. (0 < u) × (u < 2 ^ 31)) v vs h))
