-- Each move leaves less to do.
use Rattle.std.proofs.Common.{◌≡◌, ℕ, zero, suc, ◌+◌, ◌^◌, ◌<◌, ◌≤◌, Bool, true, false, not, ◌&&◌, cond, nat_eq, nat_lt, nat_le, ℤ, nat_abs, List, [], ◌∷◌, ◌++◌, refl, sym, ap, ◌∙◌, inl, inr, arith, pow-suc}
use Rattle.std.proofs.Math.Nat.{pow-le-pow_right}
use Rattle.std.specs.List.{list_all}
use Rattle.std.proofs.lemmas.Bool.{and_parts, or_cases, or_left, or_right, cases_Bool, eq-eqb, ne_eqb, ltb-true, leb-true, cases_eq, not-true}
use Rattle.std.proofs.lemmas.List.Folds.{list_any-append}
use Rattle.search_region.specs.Trail.{Item, Kind, Assumed, Decided, Flipped, Turned, Implied, depth, is_assigned, is_decided, is_branch, branches, back, turn_with}
use Rattle.search_region.specs.Steady.{Steady, FineKind}
use Rattle.search_region.specs.Work.{free_count, untried_work, work}
use Rattle.search_region.proofs.Back.{back_split, newer_forced, steady_older}
use Rattle.search_region.proofs.Flip.{fine_decided}

-- an item takes its variable from the free ones
free_above : (n : ℕ) (i : Item) (older : List Item) → n < nat_abs i.lit → free_count n (i ∷ older) ≡ free_count n older
free_above zero i older h = refl
free_above (suc n) i older h = rw (ne_eqb (suc n) (nat_abs i.lit) (λ same. omega arith)) (ap (λ k. k + cond (is_assigned (suc n) older) 0 1) (free_above n i older (omega arith)))

pub free_push : (n : ℕ) (i : Item) (older : List Item) → 0 < nat_abs i.lit → nat_abs i.lit ≤ n → is_assigned (nat_abs i.lit) older ≡ false → free_count n (i ∷ older) + 1 ≡ free_count n older
free_push zero i older named low fresh = absurd (omega arith)
free_push (suc n) i older named low fresh =
    elim (cases_eq (suc n) (nat_abs i.lit)) [
      | inl same ↦
          let here : cond {A = ℕ} (is_assigned (suc n) older) 0 1 ≡ 1 = rw (same, fresh) refl in
          let before = free_above n i older (omega arith) in
          rw (eq-eqb (suc n) (nat_abs i.lit) same) (omega arith)
      | inr other ↦
          let before = free_push n i older named (omega arith) fresh in
          rw (ne_eqb (suc n) (nat_abs i.lit) other) (omega arith)
    ]

-- where more is assigned, fewer are free
pub free_fewer : (n : ℕ) (more fewer : List Item) → ((v : ℕ) → is_assigned v fewer ≡ true → is_assigned v more ≡ true) → free_count n more ≤ free_count n fewer
free_fewer zero more fewer h = omega arith
free_fewer (suc n) more fewer h =
    let before = free_fewer n more fewer h in
    elim (cases_Bool (is_assigned (suc n) fewer)) [
      | inl on ↦ rw (on, h (suc n) on) (omega arith)
      | inr off ↦ let few : cond {A = ℕ} (is_assigned (suc n) more) 0 1 ≤ 1 = small (is_assigned (suc n) more) in rw off (omega arith)
    ]
  where
    small : (b : Bool) → cond {A = ℕ} b 0 1 ≤ 1
    small true = omega arith
    small false = omega arith

thrice : (k : ℕ) → 3 ^ (k + 1) ≡ 3 ^ k + 3 ^ k + 3 ^ k
thrice k = let next : k + 1 ≡ suc k = omega arith in rw (next, pow-suc) (omega arith)

some_power : (k : ℕ) → 0 < 3 ^ k
some_power zero = omega arith
some_power (suc k) = let before = some_power k in rw pow-suc (omega arith)

-- an item of a free variable leaves less
pub work_push : (n : ℕ) (i : Item) (older : List Item) → 0 < nat_abs i.lit → nat_abs i.lit ≤ n → is_assigned (nat_abs i.lit) older ≡ false → work n (i ∷ older) < work n older
work_push n i older named low fresh =
    let less = free_push n i older named low fresh in
    let more : 3 ^ free_count n older ≡ 3 ^ free_count n (i ∷ older) + 3 ^ free_count n (i ∷ older) + 3 ^ free_count n (i ∷ older) = ap (λ k. 3 ^ k) (sym less) ∙ thrice (free_count n (i ∷ older)) in
    let some : 0 < 3 ^ free_count n (i ∷ older) = some_power (free_count n (i ∷ older)) in
    elim (cases_Bool (is_decided i.kind)) [ inl d ↦ rw d (omega arith) | inr d ↦ rw d (omega arith) ]

untried_rises : (n : ℕ) (newer older : List Item) → untried_work n older ≤ untried_work n (newer ++ older)
untried_rises n [] older = omega arith
untried_rises n (i ∷ newer) older = let before = untried_rises n newer older in omega arith

-- items that stand by a clause have no other side
untried_forced : (n : ℕ) (forced older : List Item) → list_all (λ i. not (branches i)) forced ≡ true → untried_work n (forced ++ older) ≡ untried_work n older
untried_forced n [] older h = refl
untried_forced n (i ∷ forced) older h =
    let (now, rest) = and_parts (not (branches i)) (list_all (λ j. not (branches j)) forced) h in
    let before = untried_forced n forced older rest in
    rw (undecided i.kind (not-true (branches i) now)) (omega arith)
  where
    undecided : (k : Kind) → is_branch k ≡ false → is_decided k ≡ false
    undecided Assumed e = refl
    undecided Decided e = e
    undecided Flipped e = refl
    undecided (Turned w) e = refl
    undecided (Implied w) e = refl

-- so does a decision that an undecided item of its variable takes the place of
pub work_turn : (n : ℕ) (f : List (List ℤ)) (shown : ℕ → Bool) (newer : List Item) (d e : Item) (older : List Item) → Steady f shown (newer ++ d ∷ older) → d.kind ≡ Decided → is_decided e.kind ≡ false → nat_abs e.lit ≡ nat_abs d.lit → work n (turn_with e newer d older) < work n (newer ++ d ∷ older)
work_turn n f shown newer d e older s decided turned same =
    let rises = untried_rises n newer (d ∷ older) in
    let some : 0 < 3 ^ free_count n (newer ++ d ∷ older) = some_power (free_count n (newer ++ d ∷ older)) in
    let was : untried_work n (d ∷ older) ≡ untried_work n older + 3 ^ free_count n (d ∷ older) = rw decided refl in
    let kept : untried_work n (back (depth older) (newer ++ d ∷ older)) ≡ untried_work n older = ap (untried_work n) split ∙ untried_forced n (back (depth older) newer) older forced in
    let now : untried_work n (turn_with e newer d older) ≡ untried_work n (back (depth older) (newer ++ d ∷ older)) + 0 = rw turned refl in
    let fewer : 3 ^ free_count n (turn_with e newer d older) ≤ 3 ^ free_count n (d ∷ older) = pow-le-pow_right {n = 3} (omega arith) (free_fewer n (turn_with e newer d older) (d ∷ older) assigned) in
    omega arith
  where
    opens : d.level ≡ suc (depth older)
    opens = (fine_decided f shown d older (steady_older f shown newer (d ∷ older) s).0 decided).opens

    split : back (depth older) (newer ++ d ∷ older) ≡ back (depth older) newer ++ older
    split = back_split f shown newer d older s opens

    forced : list_all (λ i. not (branches i)) (back (depth older) newer) ≡ true
    forced = newer_forced f shown newer d older s (ap is_decided decided) opens

    assigned : (v : ℕ) → is_assigned v (d ∷ older) ≡ true → is_assigned v (turn_with e newer d older) ≡ true
    assigned v h = elim (or_cases (nat_eq v (nat_abs d.lit)) (is_assigned v older) h) [
      | inl here ↦ or_left (nat_eq v (nat_abs e.lit)) (is_assigned v (back (depth older) (newer ++ d ∷ older))) (rw same here)
      | inr before ↦ or_right (nat_eq v (nat_abs e.lit)) (is_assigned v (back (depth older) (newer ++ d ∷ older)))
          (rw split (list_any-append (λ i. nat_eq v (nat_abs i.lit)) (back (depth older) newer) older ∙ or_right (is_assigned v (back (depth older) newer)) (is_assigned v older) before))
    ]

free_all : (n : ℕ) → free_count n [] ≡ n
free_all zero = refl
free_all (suc n) = let before = free_all n in omega arith

-- the item is of one of the variables 1 to n
abbrev pub is_within : ℕ → Item → Bool
is_within n i = nat_lt 0 (nat_abs i.lit) && nat_le (nat_abs i.lit) n

-- there are no more levels than variables
pub levels_few : (n : ℕ) (f : List (List ℤ)) (shown : ℕ → Bool) (trail : List Item) → Steady f shown trail → list_all (is_within n) trail ≡ true → depth trail + free_count n trail ≤ n
levels_few n f shown [] s h = let all = free_all n in omega arith
levels_few n f shown (i ∷ older) s h =
    let (here, rest) = and_parts (is_within n i) (list_all (is_within n) older) h in
    let (named, low) = and_parts (nat_lt 0 (nat_abs i.lit)) (nat_le (nat_abs i.lit) n) here in
    let above = ltb-true 0 (nat_abs i.lit) named in
    let below = leb-true (nat_abs i.lit) n low in
    let less = free_push n i older above below s.0.fresh in
    let before = levels_few n f shown older s.1 rest in
    by_kind i.kind refl s.0.kinds less before
  where
    flat : (k : Kind) → i.kind ≡ k → is_decided k ≡ false → free_count n (i ∷ older) + 1 ≡ free_count n older → depth older + free_count n older ≤ n → depth (i ∷ older) + free_count n (i ∷ older) ≤ n
    flat k c e less before = let same : depth (i ∷ older) ≡ depth older = rw (c, e) refl in omega arith

    by_kind : (k : Kind) → i.kind ≡ k → FineKind f shown k i older → free_count n (i ∷ older) + 1 ≡ free_count n older → depth older + free_count n older ≤ n → depth (i ∷ older) + free_count n (i ∷ older) ≤ n
    by_kind Assumed c fine less before = flat Assumed c refl less before
    by_kind Decided c fine less before = let opens = fine.opens in let deep : depth (i ∷ older) ≡ i.level = rw c refl in omega arith
    by_kind Flipped c fine less before = flat Flipped c refl less before
    by_kind (Turned w) c fine less before = flat (Turned w) c refl less before
    by_kind (Implied w) c fine less before = flat (Implied w) c refl less before
