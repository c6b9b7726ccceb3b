-- A prefix that was just assumed is the one that the search is in.
use Rattle.std.proofs.Common.{◌≡◌, ℕ, ◌<◌, ◌≤◌, Bool, true, false, cond, nat_eq, nat_lt, List, [], ◌∷◌, ◌++◌, filter_map, option_to_list, Option, Some, None, ℤ, nat_abs, refl, sym, ap, subst, ◌∙◌, inl, inr, arith, All}
use Rattle.std.specs.List.{list_all, list_any}
use Rattle.std.specs.List.Sorted.{IsStrictlyIncreasing}
use Rattle.std.specs.Ordering.{int_eq}
use Rattle.std.proofs.lemmas.Bool.{and_parts, and_from, lt-ltb, ltb-true, or_cases, or_left, or_right, both_ways, cases_Bool, eqb-true, eq-eqb, ne_eqb}
use Rattle.std.proofs.lemmas.List.Elements.{filter_map-append}
use Rattle.sat_terms.specs.Cubes.{IsCube, is_among, has_literal, rises_above}
use Rattle.sat_terms.proofs.CubeLemmas.{int_eq-same, int_eq-true, rises_above-head, rises_above-tail}
use Rattle.search_region.specs.Trail as picture
use Rattle.search_region.specs.ReadCube.{picked_literal}
use Rattle.search_region.proofs.ReadCube.{rises, rises_from_increasing}
use Rattle.search_job.specs.Reasons.{assumed, assume_all}
use Rattle.search_job.specs.Same.{is_plain, front_cube}

-- ---- literals of one list among those of another

any_of : (p : ℤ → Bool) (d : List ℤ) (l : ℤ) → has_literal d l ≡ true → p l ≡ true → list_any p d ≡ true
any_of p [] l there h = there
any_of p (m ∷ d) l there h =
    elim (or_cases (int_eq l m) (has_literal d l) there) [
      | inl here ↦ or_left (p m) (list_any p d) (subst (λ x. p x ≡ true) (int_eq-true l m here) h)
      | inr later ↦ or_right (p m) (list_any p d) (any_of p d l later h)
    ]

pub any_among : (p : ℤ → Bool) (c d : List ℤ) → ((l : ℤ) → has_literal c l ≡ true → has_literal d l ≡ true) → list_any p c ≡ true → list_any p d ≡ true
any_among p [] d among h = absurd (both_ways false refl h)
any_among p (l ∷ c) d among h =
    elim (or_cases (p l) (list_any p c) h) [
      | inl here ↦ any_of p d l (among l (or_left (int_eq l l) (has_literal c l) (int_eq-same l))) here
      | inr later ↦ any_among p c d (λ m there. among m (or_right (int_eq m l) (has_literal c m) there)) later
    ]

-- ---- the literal that a list has of a variable

abbrev lit_of : List ℤ → ℕ → Option ℤ
lit_of [] v = None
lit_of (l ∷ q) v = cond (nat_eq v (nat_abs l)) (Some l) (lit_of q v)

abbrev first_of : Option ℤ → Option ℤ → Option ℤ
first_of None b = b
first_of (Some l) b = Some l

-- none of a lower one
lit_none : (n v : ℕ) (q : List ℤ) → rises_above n q ≡ true → v ≤ n → lit_of q v ≡ None
lit_none n v [] up low = refl
lit_none n v (l ∷ q) up low =
    let above = rises_above-head n l q up in
    let other : nat_eq v (nat_abs l) ≡ false = ne_eqb v (nat_abs l) (λ same. omega arith) in
    rw other (lit_none (nat_abs l) v q (rises_above-tail n l q up) (omega arith))

assumed_picked : (n v : ℕ) (q : List ℤ) (trail : List picture.Item) → rises_above n q ≡ true →
    picked_literal is_plain (assume_all q trail) v ≡ first_of (lit_of q v) (picked_literal is_plain trail v)
assumed_picked n v [] trail up = refl
assumed_picked n v (l ∷ q) trail up =
    let rest = assumed_picked (nat_abs l) v q (assumed l ∷ trail) (rises_above-tail n l q up) in
    elim (cases_Bool (nat_eq v (nat_abs l))) [
      | inl same ↦
          let none = lit_none (nat_abs l) v q (rises_above-tail n l q up) (let at = eqb-true v (nat_abs l) same in omega arith) in
          rest ∙ (rw (same, none) refl)
      | inr other ↦ rest ∙ (rw other refl)
    ]

-- ---- read over the variables it is the list again

step : (g : ℕ → Option ℤ) (v : ℕ) (p : List ℕ) → filter_map g (v ∷ p) ≡ option_to_list (g v) ++ filter_map g p
step g v p = filter_map-append g (v ∷ []) p ∙ ap (λ xs. xs ++ filter_map g p) (as_list (g v))
  where
    as_list : (o : Option ℤ) → filter_map (λ (x : ℕ). o) (0 ∷ []) ≡ option_to_list o
    as_list None = refl
    as_list (Some m) = refl

alike : (g h : ℕ → Option ℤ) (p : List ℕ) → ((u : ℕ) → is_among p u ≡ true → g u ≡ h u) → filter_map g p ≡ filter_map h p
alike g h [] same = refl
alike g h (v ∷ p) same =
    step g v p
    ∙ ap (λ o. option_to_list o ++ filter_map g p) (same v (or_left (nat_eq v v) (is_among p v) (eq-eqb v v refl)))
    ∙ ap (λ xs. option_to_list (h v) ++ xs) (alike g h p (λ u among. same u (or_right (nat_eq u v) (is_among p u) among)))
    ∙ sym (step h v p)

higher : (n u : ℕ) (p : List ℕ) → rises n p ≡ true → is_among p u ≡ true → n < u
higher n u [] up among = cc
higher n u (v ∷ p) up among =
    let (low, rest) = and_parts (nat_lt n v) (rises v p) up in
    let below = ltb-true n v low in
    elim (or_cases (nat_eq u v) (is_among p u) among) [
      | inl here ↦ let at = eqb-true u v here in omega arith
      | inr there ↦ let above = higher v u p rest there in omega arith
    ]

-- literals above the first variable are of the others
over_rest : (v n : ℕ) (p : List ℕ) (q : List ℤ) → v ≤ n → rises_above n q ≡ true → list_all (λ l. is_among (v ∷ p) (nat_abs l)) q ≡ true →
    list_all (λ l. is_among p (nat_abs l)) q ≡ true
over_rest v n p [] low up over = refl
over_rest v n p (l ∷ q) low up over =
    let (now, rest) = and_parts (is_among (v ∷ p) (nat_abs l)) (list_all (λ m. is_among (v ∷ p) (nat_abs m)) q) over in
    let above = rises_above-head n l q up in
    let other : nat_eq (nat_abs l) v ≡ false = ne_eqb (nat_abs l) v (λ same. omega arith) in
    and_from (is_among p (nat_abs l)) (list_all (λ m. is_among p (nat_abs m)) q) (rw other at now)
    (over_rest v (nat_abs l) p q (omega arith) (rises_above-tail n l q up) rest)

none_read : (p : List ℕ) → filter_map (λ (v : ℕ). lit_of [] v) p ≡ []
none_read [] = refl
none_read (v ∷ p) = step (λ (u : ℕ). lit_of [] u) v p ∙ none_read p

read_again : (n : ℕ) (p : List ℕ) (q : List ℤ) → rises n p ≡ true → rises_above n q ≡ true → list_all (λ l. is_among p (nat_abs l)) q ≡ true →
    filter_map (lit_of q) p ≡ q
read_again n [] [] low up over = refl
read_again n [] (l ∷ q) low up over = cc
read_again n (v ∷ p) [] low up over = none_read (v ∷ p)
read_again n (v ∷ p) (l ∷ q) low up over =
    let (_, later) = and_parts (nat_lt n v) (rises v p) low in
    let (now, rest) = and_parts (is_among (v ∷ p) (nat_abs l)) (list_all (λ m. is_among (v ∷ p) (nat_abs m)) q) over in
    let above = rises_above-tail n l q up in
    elim (cases_Bool (nat_eq v (nat_abs l))) [
      | inl same ↦
          let at = eqb-true v (nat_abs l) same in
          let same_up : rises_above v q ≡ true = subst (λ k. rises_above k q ≡ true) (sym at) above in
          step (lit_of (l ∷ q)) v p
          ∙ ap (λ b. option_to_list (cond b (Some l) (lit_of q v)) ++ filter_map (lit_of (l ∷ q)) p) same
          ∙ ap (λ xs. l ∷ xs) (alike (lit_of (l ∷ q)) (lit_of q) p
          (λ u among. (let high = higher v u p later among in
          ap (λ b. cond b (Some l) (lit_of q u)) (ne_eqb u (nat_abs l) (λ e. omega arith))))
          ∙ read_again v p q later same_up (over_rest v v p q (omega arith) same_up rest))
      | inr other ↦
          let there : is_among p (nat_abs l) ≡ true = elim (or_cases (nat_eq (nat_abs l) v) (is_among p (nat_abs l)) now) [
            | inl here ↦ absurd (both_ways (nat_eq v (nat_abs l)) other (eq-eqb v (nat_abs l) (sym (eqb-true (nat_abs l) v here))))
            | inr found ↦ found
          ] in
          let high = higher v (nat_abs l) p later there in
          let same_up : rises_above v (l ∷ q) ≡ true = and_from (nat_lt v (nat_abs l)) (rises_above (nat_abs l) q) (lt-ltb v (nat_abs l) high) above in
          step (lit_of (l ∷ q)) v p
          ∙ ap (λ o. option_to_list o ++ filter_map (lit_of (l ∷ q)) p)
          (ap (λ b. cond b (Some l) (lit_of q v)) other ∙ lit_none (nat_abs l) v q above (omega arith))
          ∙ read_again v p (l ∷ q) later same_up
          (and_from (is_among p (nat_abs l)) (list_all (λ m. is_among p (nat_abs m)) q) there
          (over_rest v (nat_abs l) p q (omega arith) above rest))
    ]

pub assumed_front : (p : List ℕ) (q : List ℤ) → IsStrictlyIncreasing p → All (λ v. 0 < v) p → IsCube p q → front_cube (assume_all q []) p ≡ q
assumed_front p q up named cube =
    alike (picked_literal is_plain (assume_all q [])) (lit_of q) p (λ u among. assumed_picked 0 u q [] cube.rising ∙ none_else (lit_of q u))
    ∙ read_again 0 p q (rises_from_increasing 0 p up (λ some. named 0 0 some)) cube.rising cube.over
  where
    none_else : (o : Option ℤ) → first_of o None ≡ o
    none_else None = refl
    none_else (Some l) = refl
