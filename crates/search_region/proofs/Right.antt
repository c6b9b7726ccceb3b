-- What a closed search of everything has found, sorted, is the right list.
use Rattle.std.proofs.Common.{◌≡◌, ℕ, zero, suc, ◌+◌, ◌<◌, Bool, true, false, cond, nat_eq, ℤ, nat_abs, List, [], ◌∷◌, map, length, get_or, refl, sym, ap, ap₂, subst, ◌∙◌, inl, inr, arith, All, AllPairs, IsPermutation, IsSorted, Ordering, Less, Equal, Greater, is_lt}
use Rattle.std.specs.List.{list_any, AllAdjacentBelow}
use Rattle.std.specs.List.Sorted.{IsStrictlyIncreasing}
use Rattle.std.specs.Cmp.{IsTotalOrder}
use Rattle.std.specs.Cmp.Lexicographic.{on_texts}
use Rattle.std.proofs.lemmas.Bool.{or_cases, or_left, or_right, both_ways, eq-eqb, ne_eqb}
use Rattle.std.proofs.lemmas.List.Sorted.{All-permutation}
use Rattle.std.proofs.lemmas.List.Elements.{All-head, All-tail}
use Rattle.std.proofs.lemmas.Map.Lookups.{exact_bytes}
use Rattle.sat_terms.specs.Truth.{holds}
use Rattle.sat_terms.specs.Assignments.{assignment_of, lies_in, IsGood}
use Rattle.sat_terms.specs.Cubes.{IsCube, is_among, rises_above, apart}
use Rattle.sat_terms.specs.CubeOrder.{key, cube_order}
use Rattle.sat_terms.specs.RightList.{IsWanted, IsRightList}
use Rattle.sat_terms.proofs.Keys.{same_from_keys}
use Rattle.sat_terms.proofs.CubeLemmas.{apart-skip_both, rises_above-head, rises_above-tail}
use Rattle.sat_terms.proofs.Disjoint.{lies_in-map, assignment_of-map}
use Rattle.search_region.specs.Cubes.{hit, Good}
use Rattle.search_region.specs.Region.{Closed}
use Rattle.search_region.proofs.Close.{closed_once, closed_good, in_prefix}
use Rattle.search_region.proofs.Counts.{any_hit, hit_any, hits_permuted, apart_from_counts}

-- ---- good assignments, total and projected

-- the values that an assignment was made of
pub values_of : (p : List ℕ) (a : List Bool) → IsStrictlyIncreasing p → length a ≡ length p → map (assignment_of p a) p ≡ a
values_of [] [] up h = refl
values_of [] (b ∷ a) up h = absurd (omega arith)
values_of (q ∷ p) [] up h = absurd (omega arith)
values_of (q ∷ p) (b ∷ a) up h =
    ap₂ (λ x xs. x ∷ xs) (rw (eq-eqb q q refl) refl) (apart_from_first p above_first ∙ values_of p a later (omega arith))
  where
    later : IsStrictlyIncreasing p
    later k g = let next : suc k + 1 ≡ suc (k + 1) = omega arith in subst (λ m. get_or p k 0 < get_or (q ∷ p) m 0) next (up (suc k) (omega arith))

    above_first : (k : ℕ) → k < length p → q < get_or p k 0
    above_first zero g = let one : 0 + 1 ≡ suc 0 = omega arith in subst (λ m. q < get_or (q ∷ p) m 0) one (up 0 (omega arith))
    above_first (suc k) g = let before = above_first k (omega arith) in let next : k + 1 ≡ suc k = omega arith in let step = subst (λ m. get_or p k 0 < get_or p m 0) next (later k (omega arith)) in omega arith

    apart_from_first : (r : List ℕ) → ((k : ℕ) → k < length r → q < get_or r k 0) → map (assignment_of (q ∷ p) (b ∷ a)) r ≡ map (assignment_of p a) r
    apart_from_first [] g = refl
    apart_from_first (v ∷ r) g =
        ap₂ (λ x xs. x ∷ xs) (let above = g 0 (omega arith) in rw (ne_eqb v q (λ same. omega arith)) refl) (apart_from_first r (λ k inside. g (suc k) (omega arith)))

same_values : (m t : ℕ → Bool) (q : List ℕ) → ((v : ℕ) → is_among q v ≡ true → m v ≡ t v) → map m q ≡ map t q
same_values m t [] h = refl
same_values m t (v ∷ q) h =
    ap₂ (λ x xs. x ∷ xs) (h v (or_left (nat_eq v v) (is_among q v) (eq-eqb v v refl))) (same_values m t q (λ w k. h w (or_right (nat_eq w v) (is_among q w) k)))

pub is_good_from_good : (f : List (List ℤ)) (p : List ℕ) (a : List Bool) → IsStrictlyIncreasing p → length a ≡ length p → Good f (is_among p) (assignment_of p a) → IsGood f p a
is_good_from_good f p a up long g = record {
  model = g.model;
  meets = g.meets;
  projects = same_values g.model (assignment_of p a) p g.same ∙ values_of p a up long;
}

pub good_from_is_good : (f : List (List ℤ)) (p : List ℕ) (a : List Bool) → IsGood f p a → Good f (is_among p) (assignment_of p a)
good_from_is_good f p a g = record {
  model = g.model;
  meets = g.meets;
  same = λ v among. sym (ap (λ x. assignment_of p x v) (sym g.projects) ∙ assignment_of-map g.model p v among);
}

-- ---- sorted cubes that are apart rise strictly

-- a cube isn't apart from itself
apart_self : (n : ℕ) (c : List ℤ) → rises_above n c ≡ true → apart c c ≡ false
apart_self n [] r = refl
apart_self n (l ∷ c) r =
    apart-skip_both l c c (let above = rises_above-head n l c r in omega arith) (rises_above-tail n l c r) (rises_above-tail n l c r) ∙ apart_self (nat_abs l) c (rises_above-tail n l c r)

less_from_sorted : (c d : List ℤ) → is_lt (cube_order d c) ≡ false → (c ≡ d → ⊥) → cube_order c d ≡ Less
less_from_sorted c d h other = by_order (cube_order c d) refl
  where
    total : IsTotalOrder cube_order
    total = on_texts (map key)

    by_order : (o : Ordering) → cube_order c d ≡ o → cube_order c d ≡ Less
    by_order Less e = e
    by_order Equal e = absurd (other (same_from_keys c d (exact_bytes (map key c) (map key d) e)))
    by_order Greater e =
        let back : cube_order d c ≡ Less = total.antisymm d c ∙ rw e refl in
        absurd (both_ways (is_lt (cube_order d c)) h (rw back refl))

pub rises_from_sorted : (cubes : List (List ℤ)) → All (λ c. rises_above 0 c ≡ true) cubes → AllPairs (λ c d. apart c d ≡ true) cubes → IsSorted cube_order cubes → AllAdjacentBelow (λ c d. cube_order c d ≡ Less) cubes (length cubes)
rises_from_sorted cubes rising disjoint sorted k d inside =
    less_from_sorted (get_or cubes k d) (get_or cubes (k + 1) d) (sorted k d (omega arith) inside)
    (λ same. both_ways (apart (get_or cubes k d) (get_or cubes k d)) (apart_self 0 (get_or cubes k d) (rising k d (omega arith)))
    (subst (λ x. apart (get_or cubes k d) x ≡ true) (sym same) (disjoint k (k + 1) d (omega arith) inside)))

-- ---- the right list

module _ (f : List (List ℤ)) (p : List ℕ) (u : List ℤ) (found cubes : List (List ℤ)) (up : IsStrictlyIncreasing p) (given : IsCube p u) (done : Closed f (is_among p) u found) (shape : All (IsCube p) found) (perm : IsPermutation found cubes) (sorted : IsSorted cube_order cubes) where
  over : All (IsCube p) cubes
  over = All-permutation (IsCube p) found cubes perm shape

  rising : All (λ c. rises_above 0 c ≡ true) cubes
  rising k d inside = (over k d inside).rising

  disjoint : AllPairs (λ c d. apart c d ≡ true) cubes
  disjoint = apart_from_counts cubes rising (λ t. let same = hits_permuted t found cubes perm in let few = closed_once f (is_among p) u found done t in omega arith)

  wanted_from_hit : (a : List Bool) → length a ≡ length p → list_any (lies_in p a) cubes ≡ true → IsWanted f p u a
  wanted_from_hit a long h =
      let some = any_hit (assignment_of p a) cubes h in
      let same = hits_permuted (assignment_of p a) found cubes perm in
      let g : Good f (is_among p) (assignment_of p a) = done.good (assignment_of p a) (omega arith) in
      let one = closed_good f (is_among p) u found done (assignment_of p a) g in
      record { given = in_prefix (assignment_of p a) u (omega arith); good = is_good_from_good f p a up long g }

  hit_from_wanted : (a : List Bool) → IsWanted f p u a → list_any (lies_in p a) cubes ≡ true
  hit_from_wanted a w =
      let g = w.good in
      let same = hits_permuted g.model found cubes perm in
      let one = done.exact g.model g.meets in
      let inside : hit g.model u ≡ 1 = ap (λ b. cond b 1 0) (sym (lies_in-map g.model p u given.over) ∙ ap (λ x. lies_in p x u) g.projects ∙ w.given) in
      in_cubes cubes over (hit_any g.model cubes (omega arith))
    where
      g : IsGood f p a
      g = w.good

      in_cubes : (cs : List (List ℤ)) → All (IsCube p) cs → list_any (holds g.model) cs ≡ true → list_any (lies_in p a) cs ≡ true
      in_cubes [] all h = h
      in_cubes (c ∷ cs) all h =
          elim (or_cases (holds g.model c) (list_any (holds g.model) cs) h) [
            | inl here ↦ or_left (lies_in p a c) (list_any (lies_in p a) cs) (ap (λ x. lies_in p x c) (sym g.projects) ∙ lies_in-map g.model p c (All-head (IsCube p) c cs all).over ∙ here)
            | inr rest ↦ or_right (lies_in p a c) (list_any (lies_in p a) cs) (in_cubes cs (All-tail (IsCube p) c cs all) rest)
          ]

  pub closed_is_right : IsRightList f p u cubes
  closed_is_right = record {
    over = over;
    rising = rises_from_sorted cubes rising disjoint sorted;
    disjoint = disjoint;
    exact = λ a long. (wanted_from_hit a long, hit_from_wanted a);
  }
