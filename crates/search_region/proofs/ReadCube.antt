-- The cube that is read off a trail: its variables rise, and it holds just what the picked shown items say.
use Rattle.std.proofs.Common.{◌≡◌, ℕ, suc, ◌+◌, ◌<◌, ◌≤◌, ◌^◌, Bool, true, false, ◌&&◌, cond, nat_eq, nat_lt, ℤ, nat_abs, List, [], ◌∷◌, ◌++◌, length, get_or, Option, Some, None, filter_map, refl, sym, ap, subst, ◌∙◌, inl, inr, arith}
use Rattle.std.specs.List.{list_all, All}
use Rattle.std.specs.List.Sorted.{IsStrictlyIncreasing}
use Rattle.std.proofs.lemmas.Bool.{and_parts, and_from, or_cases, or_parts, or_left, or_right, both_ways, cases_Bool, eq-eqb, eqb-true, ltb-true, lt-ltb}
use Rattle.std.proofs.lemmas.List.Elements.{All-nil, All-cons, All-head, All-tail}
use Rattle.sat_terms.specs.Literals.{IsLiteral, lit_true}
use Rattle.sat_terms.specs.Truth.{holds}
use Rattle.sat_terms.specs.Cubes.{IsCube, is_among, rises_above}
use Rattle.search_region.specs.Trail.{Item, is_assigned, seen, agrees, upto}
use Rattle.search_region.specs.Steady.{Steady}
use Rattle.search_region.specs.Model.{CubeOf}
use Rattle.search_region.specs.ReadCube.{picked_literal, read_cube}
use Rattle.search_region.proofs.Agree.{agree_head, agree_tail, agree_more}
use Rattle.search_region.proofs.Cut.{same_bools}

-- ---- the literal of one variable

-- it is a literal of this variable
pub picked_literal-variable : (pick : Item → Bool) (trail : List Item) (v : ℕ) (l : ℤ) → picked_literal pick trail v ≡ Some l → nat_abs l ≡ v
picked_literal-variable pick [] v l h = cc
picked_literal-variable pick (i ∷ older) v l h =
    elim (cases_Bool (nat_eq v (nat_abs i.lit))) [
      | inr other ↦ picked_literal-variable pick older v l (rw other at h)
      | inl same ↦ elim (cases_Bool (pick i)) [
        | inl picked ↦ let here : Some i.lit ≡ Some l = rw (same, picked) at h in let k : i.lit ≡ l = cc in ap nat_abs (sym k) ∙ sym (eqb-true v (nat_abs i.lit) same)
        | inr dropped ↦ let none : ◌≡◌ {A = Option ℤ} None (Some l) = rw (same, dropped) at h in cc
      ]
    ]

-- an unassigned variable has none
pub picked_literal-free : (pick : Item → Bool) (trail : List Item) (v : ℕ) → is_assigned v trail ≡ false → picked_literal pick trail v ≡ None
picked_literal-free pick [] v h = refl
picked_literal-free pick (i ∷ older) v h =
    let (other, rest) = or_parts (nat_eq v (nat_abs i.lit)) (is_assigned v older) h in
    rw other (picked_literal-free pick older v rest)

-- an item that is older than all others, and of another variable than these
pub picked_literal-oldest : (pick : Item → Bool) (newer : List Item) (i : Item) (v : ℕ) → is_assigned (nat_abs i.lit) newer ≡ false → picked_literal pick (newer ++ i ∷ []) v ≡ cond (nat_eq v (nat_abs i.lit)) (cond (pick i) (Some i.lit) None) (picked_literal pick newer v)
picked_literal-oldest pick [] i v h = refl
picked_literal-oldest pick (j ∷ newer) i v h =
    let (other, rest) = or_parts (nat_eq (nat_abs i.lit) (nat_abs j.lit)) (is_assigned (nat_abs i.lit) newer) h in
    elim (cases_Bool (nat_eq v (nat_abs j.lit))) [
      | inr elsewhere ↦ rw elsewhere (picked_literal-oldest pick newer i v rest)
      | inl here ↦
          let apart : nat_eq v (nat_abs i.lit) ≡ false = ap (λ n. nat_eq n (nat_abs i.lit)) (eqb-true v (nat_abs j.lit) here) ∙ swap (nat_abs j.lit) (nat_abs i.lit) other in
          rw (here, apart) refl
    ]
  where
    swap : (m n : ℕ) → nat_eq n m ≡ false → nat_eq m n ≡ false
    swap m n e = elim (cases_Bool (nat_eq m n)) [
      | inl same ↦ absurd (both_ways (nat_eq n m) e (eq-eqb n m (sym (eqb-true m n same))))
      | inr differs ↦ differs
    ]

-- ---- what the cube holds

-- where there is a literal, it is true
abbrev pub is_said : (ℕ → Bool) → Option ℤ → Bool
is_said t None = true
is_said t (Some l) = lit_true t l

holds_said : (t : ℕ → Bool) (said : ℕ → Option ℤ) (p : List ℕ) → holds t (filter_map said p) ≡ list_all (λ v. is_said t (said v)) p
holds_said t said [] = refl
holds_said t said (v ∷ p) = at_literal (said v) refl (holds_said t said p)
  where
    at_literal : (o : Option ℤ) → said v ≡ o → holds t (filter_map said p) ≡ list_all (λ w. is_said t (said w)) p → holds t (filter_map said (v ∷ p)) ≡ list_all (λ w. is_said t (said w)) (v ∷ p)
    at_literal None e rest = rw e rest
    at_literal (Some l) e rest = rw e (ap (λ b. lit_true t l && b) rest)

-- a test of each of the variables
pub all_among : (test : ℕ → Bool) (p : List ℕ) → list_all test p ≡ true → (v : ℕ) → is_among p v ≡ true → test v ≡ true
all_among test [] h v k = cc
all_among test (w ∷ p) h v k =
    elim (or_cases (nat_eq v w) (is_among p v) k) [
      | inl same ↦ ap test (eqb-true v w same) ∙ (and_parts (test w) (list_all test p) h).0
      | inr rest ↦ all_among test p (and_parts (test w) (list_all test p) h).1 v rest
    ]

pub all_from_among : (test : ℕ → Bool) (p : List ℕ) → ((v : ℕ) → is_among p v ≡ true → test v ≡ true) → list_all test p ≡ true
all_from_among test [] h = refl
all_from_among test (w ∷ p) h =
    and_from (test w) (list_all test p) (h w (or_left (nat_eq w w) (is_among p w) (eq-eqb w w refl)))
    (all_from_among test p (λ v k. h v (or_right (nat_eq v w) (is_among p v) k)))

module _ (f : List (List ℤ)) (p : List ℕ) (pick : Item → Bool) (t : ℕ → Bool) where
  agree_said : (trail : List Item) → Steady f (is_among p) trail → ((v : ℕ) → is_among p v ≡ true → is_said t (picked_literal pick trail v) ≡ true) → agrees (λ i. seen (is_among p) i && pick i) t trail ≡ true
  agree_said [] s h = refl
  agree_said (i ∷ older) s h =
      agree_more (λ j. seen (is_among p) j && pick j) t i older
      (λ both. let (shows, picked) = and_parts (seen (is_among p) i) (pick i) both in
      let said = h (nat_abs i.lit) shows in
      let own : nat_eq (nat_abs i.lit) (nat_abs i.lit) ≡ true = eq-eqb (nat_abs i.lit) (nat_abs i.lit) refl in
      rw (own, picked) at said)
      (agree_said older s.1 before)
    where
      before : (v : ℕ) → is_among p v ≡ true → is_said t (picked_literal pick older v) ≡ true
      before v among = elim (cases_Bool (nat_eq v (nat_abs i.lit))) [
        | inl same ↦ ap (is_said t) (picked_literal-free pick older v (ap (λ n. is_assigned n older) (eqb-true v (nat_abs i.lit) same) ∙ s.0.fresh))
        | inr other ↦ rw other at (h v among)
      ]

  said_from_agree : (trail : List Item) → agrees (λ i. seen (is_among p) i && pick i) t trail ≡ true → (v : ℕ) → is_among p v ≡ true → is_said t (picked_literal pick trail v) ≡ true
  said_from_agree [] a v among = refl
  said_from_agree (i ∷ older) a v among =
      elim (cases_Bool (nat_eq v (nat_abs i.lit))) [
        | inr other ↦ rw other (said_from_agree older (agree_tail (λ j. seen (is_among p) j && pick j) t i older a) v among)
        | inl same ↦ elim (cases_Bool (pick i)) [
          | inr dropped ↦ rw (same, dropped) refl
          | inl picked ↦ rw (same, picked) (agree_head (λ j. seen (is_among p) j && pick j) t i older a (and_from (seen (is_among p) i) (pick i) (ap (is_among p) (sym (eqb-true v (nat_abs i.lit) same)) ∙ among) picked))
        ]
      ]

  -- the cube holds just what the picked shown items say
  pub read_cube_says : (trail : List Item) → Steady f (is_among p) trail → holds t (read_cube pick trail p) ≡ agrees (λ i. seen (is_among p) i && pick i) t trail
  read_cube_says trail s =
      holds_said t (picked_literal pick trail) p
      ∙ same_bools (list_all (λ v. is_said t (picked_literal pick trail v)) p) (agrees (λ i. seen (is_among p) i && pick i) t trail)
      (λ h. agree_said trail s (all_among (λ v. is_said t (picked_literal pick trail v)) p h))
      (λ a. all_from_among (λ v. is_said t (picked_literal pick trail v)) p (said_from_agree trail a))

-- ---- it is a cube over the shown variables

-- numbers that rise from above n on
abbrev pub rises : ℕ → List ℕ → Bool
rises n [] = true
rises n (v ∷ p) = nat_lt n v && rises v p

pub rises_from_increasing : (n : ℕ) (p : List ℕ) → IsStrictlyIncreasing p → (0 < length p → n < get_or p 0 0) → rises n p ≡ true
rises_from_increasing n [] up h = refl
rises_from_increasing n (v ∷ p) up h =
    and_from (nat_lt n v) (rises v p) (lt-ltb n v (h (omega arith)))
    (rises_from_increasing v p (λ k g. let next : suc k + 1 ≡ suc (k + 1) = omega arith in subst (λ m. get_or p k 0 < get_or (v ∷ p) m 0) next (up (suc k) (omega arith)))
    (λ g. let one : 0 + 1 ≡ suc 0 = omega arith in subst (λ m. v < get_or (v ∷ p) m 0) one (up 0 (omega arith))))

rises_lower : (m n : ℕ) (c : List ℤ) → n ≤ m → rises_above m c ≡ true → rises_above n c ≡ true
rises_lower m n [] h r = refl
rises_lower m n (l ∷ c) h r =
    let (now, rest) = and_parts (nat_lt m (nat_abs l)) (rises_above (nat_abs l) c) r in
    and_from (nat_lt n (nat_abs l)) (rises_above (nat_abs l) c) (let above = ltb-true m (nat_abs l) now in lt-ltb n (nat_abs l) (omega arith)) rest

module _ (pick : Item → Bool) (trail : List Item) where
  read_above : (n : ℕ) (p : List ℕ) → rises n p ≡ true → rises_above n (read_cube pick trail p) ≡ true
  read_above n [] r = refl
  read_above n (v ∷ p) r = at_literal (picked_literal pick trail v) refl (and_parts (nat_lt n v) (rises v p) r) (read_above v p (and_parts (nat_lt n v) (rises v p) r).1)
    where
      at_literal : (o : Option ℤ) → picked_literal pick trail v ≡ o → (nat_lt n v ≡ true) × (rises v p ≡ true) → rises_above v (read_cube pick trail p) ≡ true → rises_above n (read_cube pick trail (v ∷ p)) ≡ true
      at_literal None e g before = rw e (let above = ltb-true n v g.0 in rises_lower v n (read_cube pick trail p) (omega arith) before)
      at_literal (Some l) e g before =
          let same = picked_literal-variable pick trail v l e in
          rw e (and_from (nat_lt n (nat_abs l)) (rises_above (nat_abs l) (read_cube pick trail p)) (rw same g.0) (rw same before))

  pub read_cube_rises : (p : List ℕ) → IsStrictlyIncreasing p → All (λ v. 0 < v) p → rises_above 0 (read_cube pick trail p) ≡ true
  read_cube_rises p up named = read_above 0 p (rises_from_increasing 0 p up (λ h. named 0 0 h))

  pub read_cube_over : (q p : List ℕ) → ((v : ℕ) → is_among p v ≡ true → is_among q v ≡ true) → list_all (λ l. is_among q (nat_abs l)) (read_cube pick trail p) ≡ true
  read_cube_over q [] h = refl
  read_cube_over q (v ∷ p) h =
      at_literal (picked_literal pick trail v) refl (read_cube_over q p (λ w g. h w (or_right (nat_eq w v) (is_among p w) g)))
    where
      at_literal : (o : Option ℤ) → picked_literal pick trail v ≡ o → list_all (λ l. is_among q (nat_abs l)) (read_cube pick trail p) ≡ true → list_all (λ l. is_among q (nat_abs l)) (read_cube pick trail (v ∷ p)) ≡ true
      at_literal None e rest = rw e rest
      at_literal (Some l) e rest = rw e (and_from (is_among q (nat_abs l)) (list_all (λ m. is_among q (nat_abs m)) (read_cube pick trail p)) (rw (picked_literal-variable pick trail v l e) (h v (or_left (nat_eq v v) (is_among p v) (eq-eqb v v refl)))) rest)

  pub read_cube_literals : (p : List ℕ) → All (λ v. (0 < v) × (v < 2 ^ 31)) p → All IsLiteral (read_cube pick trail p)
  read_cube_literals [] named = All-nil IsLiteral
  read_cube_literals (v ∷ p) named =
      at_literal (picked_literal pick trail v) refl (All-head (λ w. (0 < w) × (w < 2 ^ 31)) v p named) (read_cube_literals p (All-tail (λ w. (0 < w) × (w < 2 ^ 31)) v p named))
    where
      at_literal : (o : Option ℤ) → picked_literal pick trail v ≡ o → (0 < v) × (v < 2 ^ 31) → All IsLiteral (read_cube pick trail p) → All IsLiteral (read_cube pick trail (v ∷ p))
      at_literal None e here rest = rw e rest
      at_literal (Some l) e here rest = rw e (All-cons IsLiteral l (read_cube pick trail p) (subst (λ n. (0 < n) × (n < 2 ^ 31)) (sym (picked_literal-variable pick trail v l e)) here) rest)

  pub read_cube_is_cube : (p : List ℕ) → IsStrictlyIncreasing p → All (λ v. 0 < v) p → IsCube p (read_cube pick trail p)
  read_cube_is_cube p up named = record {
    rising = read_cube_rises p up named;
    over = read_cube_over p p (λ v h. h);
  }

-- the cube of a level
pub read_cube_of : (f : List (List ℤ)) (p : List ℕ) (b : ℕ) (trail : List Item) → Steady f (is_among p) trail → CubeOf (is_among p) b trail (read_cube (upto b) trail p)
read_cube_of f p b trail s = record {
  over_shown = read_cube_over (upto b) trail p p (λ v h. h);
  says = λ t. read_cube_says f p (upto b) t trail s;
}
