-- The prefix that a job keeps when it gives a branch away, and the cubes that are within it.
use Rattle.std.proofs.Common.{◌≡◌, ℕ, suc, ◌+◌, ◌<◌, ◌≤◌, Bool, true, false, not, ◌&&◌, ℤ, nat_abs, List, [], ◌∷◌, ◌++◌, filter, refl, subst, ◌∙◌, ◌⊎◌, inl, inr, arith}
use Rattle.std.specs.List.{list_all, AllByRecursion}
use Rattle.std.proofs.lemmas.Bool.{and_parts, and_from, both_ways, cases_Bool, not-true}
use Rattle.std.proofs.lemmas.List.Folds.{list_all-append}
use Rattle.sat_terms.specs.Literals.{lit_true}
use Rattle.sat_terms.specs.Truth.{holds}
use Rattle.search_region.specs.Trail.{Item, Kind, Assumed, Decided, Flipped, Turned, Implied, depth, seen, agrees, is_flipped, is_implied}
use Rattle.search_region.specs.Cubes.{hits, over}
use Rattle.search_region.specs.Region.{leaves_at, front, root}
use Rattle.search_region.proofs.Agree.{agree_tail}
use Rattle.search_region.proofs.Model.{front_true}
use Rattle.search_region.specs.Steady.{Steady}
use Rattle.search_region.proofs.Back.{steady_older}
use Rattle.search_region.proofs.Flip.{fine_decided}
use Rattle.search_region.proofs.Root.{cases_le, front_older, root_whole, root_above, root_older}
use Rattle.search_region.proofs.Fits.{front_agrees, in_front}
use Rattle.search_region.proofs.Agree.{agree_head}
use Rattle.search_job.specs.Stuck.{Stuck, AllStuck}
use Rattle.search_job.specs.Give.{Tells}
use Rattle.search_job.proofs.Stuck.{leaves_agrees}

-- ---- the root of a trail

module _ (shown : ℕ → Bool) (k : ℕ) where
  -- who agrees with the shown items is in the front of the root
  pub root_has : (f : List (List ℤ)) (t : ℕ → Bool) (trail : List Item) → agrees (seen shown) t trail ≡ true → holds t (front shown (root k trail)) ≡ true
  root_has f t [] a = refl
  root_has f t (i ∷ older) a = elim (cases_le (depth (i ∷ older)) k) [
    | inl low ↦ rw (root_whole k (i ∷ older) low) (front_true f shown t (i ∷ older) a)
    | inr high ↦ rw (root_above k i older high) (root_has f t older (agree_tail (seen shown) t i older a))
  ]

  -- the front of the root is part of the front
  pub root_front : (t : ℕ → Bool) (trail : List Item) → holds t (front shown trail) ≡ true → holds t (front shown (root k trail)) ≡ true
  root_front t [] h = h
  root_front t (i ∷ older) h = elim (cases_le (depth (i ∷ older)) k) [
    | inl low ↦ rw (root_whole k (i ∷ older) low) h
    | inr high ↦ rw (root_above k i older high) (root_front t older (front_older shown t (i ∷ []) older h))
  ]

  -- what stands at level k or below is part of the root's front
  pub root_reaches : (t : ℕ → Bool) (newer older : List Item) → depth older ≤ k → holds t (front shown (root k (newer ++ older))) ≡ true → holds t (front shown older) ≡ true
  root_reaches t [] older low h = subst (λ rest. holds t (front shown rest) ≡ true) (root_whole k older low) h
  root_reaches t (i ∷ newer) older low h = elim (cases_le (depth (i ∷ (newer ++ older))) k) [
    | inl whole ↦ front_older shown t (i ∷ newer) older (subst (λ rest. holds t (front shown rest) ≡ true) (root_whole k (i ∷ (newer ++ older)) whole) h)
    | inr high ↦ root_reaches t newer older low (subst (λ rest. holds t (front shown rest) ≡ true) (root_above k i (newer ++ older) high) h)
  ]

-- with a higher level the root is longer
pub root_more : (shown t : ℕ → Bool) (j k : ℕ) → j ≤ k → (trail : List Item) → holds t (front shown (root k trail)) ≡ true → holds t (front shown (root j trail)) ≡ true
root_more shown t j k less [] h = h
root_more shown t j k less (i ∷ older) h = elim (cases_le (depth (i ∷ older)) k) [
  | inl low ↦ root_front shown j t (i ∷ older) (subst (λ rest. holds t (front shown rest) ≡ true) (root_whole k (i ∷ older) low) h)
  | inr high ↦ rw (root_above j i older (omega arith)) (root_more shown t j k less older (subst (λ rest. holds t (front shown rest) ≡ true) (root_above k i older high) h))
]

-- it ends at the decision of the next level
pub root_next : (f : List (List ℤ)) (shown : ℕ → Bool) (k : ℕ) (newer : List Item) (d : Item) (older : List Item) → Steady f shown (newer ++ d ∷ older) → d.kind ≡ Decided → d.level ≡ suc k → root k (newer ++ d ∷ older) ≡ older
root_next f shown k newer d older s decided next =
    let opens = (fine_decided f shown d older (steady_older f shown newer (d ∷ older) s).0 decided).opens in
    let high : k < depth (d ∷ older) = rw decided (omega arith) in
    root_older f shown k newer (d ∷ older) s high ∙ root_above k d older high ∙ root_whole k older (omega arith)

-- the literals of the front are shown
pub over_front : (shown : ℕ → Bool) (trail : List Item) → over shown (front shown trail) ≡ true
over_front shown [] = refl
over_front shown (i ∷ older) = elim (cases_Bool (seen shown i && not (is_implied i.kind))) [
  | inl e ↦ rw e (list_all-append (λ l. shown (nat_abs l)) (front shown older) (i.lit ∷ []) ∙ and_from (over shown (front shown older)) (shown (nat_abs i.lit) && true) (over_front shown older)
      (and_from (shown (nat_abs i.lit)) true (and_parts (seen shown i) (not (is_implied i.kind)) e).0 refl))
  | inr e ↦ rw e (over_front shown older)
]

-- ---- within the kept prefix, or apart from it

module _ (f : List (List ℤ)) (shown : ℕ → Bool) where
  -- nobody who leaves at an item is in the front with this item
  leaves_front : (t : ℕ → Bool) (i : Item) (older : List Item) → leaves_at shown t i older ≡ true → holds t (front shown (i ∷ older)) ≡ true → ⊥
  leaves_front t i older h held =
      let (flips, away) = and_parts (is_flipped i.kind && seen shown i) (not (lit_true t i.lit) && agrees (seen shown) t older) h in
      let (flipped, shows) = and_parts (is_flipped i.kind) (seen shown i) flips in
      both_ways (lit_true t i.lit) (not-true (lit_true t i.lit) (and_parts (not (lit_true t i.lit)) (agrees (seen shown) t older) away).0)
      (agree_head (in_front shown) t i older (front_agrees shown t (i ∷ older) held) (and_from (seen shown i) (not (is_implied i.kind)) shows (unimplied i.kind flipped)))
    where
      unimplied : (k : Kind) → is_flipped k ≡ true → not (is_implied k) ≡ true
      unimplied Assumed e = refl
      unimplied Decided e = refl
      unimplied Flipped e = refl
      unimplied (Turned w) e = refl
      unimplied (Implied w) e = e

  pub stuck_front : (t : ℕ → Bool) (c : List ℤ) (trail : List Item) → Stuck shown trail c → holds t c ≡ true → holds t (front shown trail) ≡ true → ⊥
  stuck_front t c [] stuck held h = stuck
  stuck_front t c (i ∷ older) (inl before) held h = stuck_front t c older before held (front_older shown t (i ∷ []) older h)
  stuck_front t c (i ∷ older) (inr here) held h = leaves_front t i older (here t held) h

  -- a cube that is stuck at one item is within the front of a root, or shares nothing with it
  pub stuck_parts : (k : ℕ) (c : List ℤ) (trail : List Item) → Stuck shown trail c → ((t : ℕ → Bool) → holds t c ≡ true → holds t (front shown (root k trail)) ≡ true) ⊎ ((t : ℕ → Bool) → holds t c ≡ true → holds t (front shown (root k trail)) ≡ true → ⊥)
  stuck_parts k c [] stuck = absurd stuck
  stuck_parts k c (i ∷ older) stuck = elim (cases_le (depth (i ∷ older)) k) [
    | inl low ↦ inr (λ t held h. stuck_front t c (i ∷ older) stuck held (subst (λ rest. holds t (front shown rest) ≡ true) (root_whole k (i ∷ older) low) h))
    | inr high ↦ rw (root_above k i older high) (elim stuck [
      | inl before ↦ stuck_parts k c older before
      | inr here ↦ inl (λ t held. root_has shown k f t older (leaves_agrees shown t i older (here t held)))
    ])
  ]

-- ---- cubes parted by a test

-- the test parts the cubes into those within the prefix and those that share nothing with it
pub record Parts (inside : List ℤ → Bool) (q c : List ℤ) : Type 0 where
  pub within : inside c ≡ true → (t : ℕ → Bool) → holds t c ≡ true → holds t q ≡ true
  pub apart : inside c ≡ false → (t : ℕ → Bool) → holds t c ≡ true → holds t q ≡ true → ⊥

pub parts_of : (f : List (List ℤ)) (shown : ℕ → Bool) (k : ℕ) (inside : List ℤ → Bool) (trail : List Item) (cubes : List (List ℤ)) → AllStuck shown trail cubes → AllByRecursion (Tells inside (front shown (root k trail))) cubes → AllByRecursion (Parts inside (front shown (root k trail))) cubes
parts_of f shown k inside trail [] stuck tells = tt
parts_of f shown k inside trail (c ∷ cubes) stuck tells = (
  record {
    within = tells.0.within;
    apart = λ out. elim (stuck_parts f shown k c trail stuck.0) [
      | inl all ↦ absurd (tells.0.other out all)
      | inr none ↦ none
    ];
  },
  parts_of f shown k inside trail cubes stuck.1 tells.1,
)

module _ (inside : List ℤ → Bool) (q : List ℤ) (t : ℕ → Bool) where
  -- each cube goes to one of the two parts
  pub hits_parted : (cubes : List (List ℤ)) → hits t cubes ≡ hits t (filter inside cubes) + hits t (filter (λ c. not (inside c)) cubes)
  hits_parted [] = omega arith
  hits_parted (c ∷ cubes) =
      let rest = hits_parted cubes in
      elim (cases_Bool (inside c)) [
        | inl in_part ↦ rw in_part (omega arith)
        | inr out ↦ rw out (omega arith)
      ]

  -- outside the prefix none of those within it
  pub hits_within : (cubes : List (List ℤ)) → AllByRecursion (Parts inside q) cubes → holds t q ≡ false → hits t (filter inside cubes) ≡ 0
  hits_within [] parts free = refl
  hits_within (c ∷ cubes) parts free =
      let rest = hits_within cubes parts.1 free in
      elim (cases_Bool (inside c)) [
        | inr out ↦ rw out rest
        | inl in_part ↦ rw in_part (elim (cases_Bool (holds t c)) [
          | inl held ↦ absurd (both_ways (holds t q) free (parts.0.within in_part t held))
          | inr none ↦ rw none (omega arith)
        ])
      ]

  -- within it none of the others
  pub hits_apart : (cubes : List (List ℤ)) → AllByRecursion (Parts inside q) cubes → holds t q ≡ true → hits t (filter (λ c. not (inside c)) cubes) ≡ 0
  hits_apart [] parts held = refl
  hits_apart (c ∷ cubes) parts held =
      let rest = hits_apart cubes parts.1 held in
      elim (cases_Bool (inside c)) [
        | inl in_part ↦ rw in_part rest
        | inr out ↦ rw out (elim (cases_Bool (holds t c)) [
          | inl both ↦ absurd (parts.0.apart out t both held)
          | inr none ↦ rw none (omega arith)
        ])
      ]

pub over_filter : (shown : ℕ → Bool) (keep : List ℤ → Bool) (cubes : List (List ℤ)) → list_all (over shown) cubes ≡ true → list_all (over shown) (filter keep cubes) ≡ true
over_filter shown keep [] h = refl
over_filter shown keep (c ∷ cubes) h =
    let (now, rest) = and_parts (over shown c) (list_all (over shown) cubes) h in
    elim (cases_Bool (keep c)) [
      | inl stays ↦ rw stays (and_from (over shown c) (list_all (over shown) (filter keep cubes)) now (over_filter shown keep cubes rest))
      | inr goes ↦ rw goes (over_filter shown keep cubes rest)
    ]
