-- The leaves that go with a branch that is given away.
use Rattle.std.proofs.Common.{◌≡◌, ℕ, suc, ◌+◌, ◌-◌, ◌<◌, ◌≤◌, Bool, true, false, not, ◌&&◌, ◌||◌, cond, nat_le, nat_lt, ℤ, neg_ℤ, nat_abs, List, [], ◌∷◌, ◌++◌, refl, sym, ap, ◌∙◌, inl, inr, arith}
use Rattle.std.specs.List.{list_any, list_all}
use Rattle.std.proofs.lemmas.Bool.{and_parts, and_from, and_left, and_right, or_cases, or_left, or_right, both_ways, cases_Bool, false_from_ne_true, le-leb, leb-true, lt-ltb, ltb-true, not-true}
use Rattle.search_region.specs.Trail.{Item, Kind, Assumed, Decided, Flipped, Turned, Implied, depth, seen, is_chosen, is_decided}
use Rattle.search_region.specs.Steady.{Steady}
use Rattle.search_region.specs.Region.{front, root, untried, is_open}
use Rattle.search_region.proofs.Agree.{level_bound, levels_within}
use Rattle.search_region.proofs.Back.{steady_older}
use Rattle.search_region.proofs.Flip.{fine_decided, assigned_newer}
use Rattle.search_region.proofs.Fits.{untried_low}
use Rattle.search_region.proofs.Cut.{chosen_seen}
use Rattle.search_region.proofs.Root.{cases_le, root_whole, root_above}
use Rattle.search_job.specs.Weights.{weight, weighs}
use Rattle.search_job.specs.Give.{next_count}
use Rattle.search_job.proofs.Weights.{weighs_less}
use Rattle.search_job.proofs.Leaf.{shut_hidden, shut_all_hidden, untried_shut, newer_hidden}

-- what weighs below the oldest open decision above the level k: all of the prefix before it, or w where there is none
abbrev pub next_weight : ℕ → (ℕ → Bool) → ℕ → ℕ → List Item → ℕ
next_weight n shown k w [] = w
next_weight n shown k w (i ∷ older) =
    cond (is_open shown k i)
    (next_weight n shown k (weight n (front shown older)) older)
    (next_weight n shown k w older)

-- ---- where nothing is open above the level

module _ (f : List (List ℤ)) (shown : ℕ → Bool) (k : ℕ) where
  shut_low : (i : Item) → i.level ≤ k → is_open shown k i ≡ false
  shut_low i low = and_right (is_decided i.kind && seen shown i) (nat_lt k i.level) (false_from_ne_true (nat_lt k i.level) λ high. (let up = ltb-true k i.level high in omega arith))

  pub next_weight_low : (n w : ℕ) (trail : List Item) → Steady f shown trail → depth trail ≤ k → next_weight n shown k w trail ≡ w
  next_weight_low n w [] s low = refl
  next_weight_low n w (i ∷ older) s low =
      let bound = level_bound f shown i older s.0 in
      let level = bound.0 in
      let rises = bound.1 in
      rw (shut_low i (omega arith)) (next_weight_low n w older s.1 (omega arith))

  pub next_count_low : (count : ℕ → ℕ) (now : ℕ) (trail : List Item) → Steady f shown trail → depth trail ≤ k → next_count shown k count now trail ≡ now
  next_count_low count now [] s low = refl
  next_count_low count now (i ∷ older) s low =
      let bound = level_bound f shown i older s.0 in
      let level = bound.0 in
      let rises = bound.1 in
      rw (shut_low i (omega arith)) (next_count_low count now older s.1 (omega arith))

-- ---- the walk of weights, taken up again at a higher base

module _ (shown : ℕ → Bool) (n base : ℕ) (p : List ℤ) where
  -- the count at an older decision is no more
  pub next_count_few : (k : ℕ) (count : ℕ → ℕ) (w now : ℕ) (trail : List Item) → base ≤ k → weighs shown n base count p w now trail ≡ true → next_count shown k count now trail ≤ now
  next_count_few k count w now [] less h = omega arith
  next_count_few k count w now (i ∷ older) less h =
      elim (cases_Bool (is_open shown base i)) [
        | inr shut ↦ rw (shut_above shut) (next_count_few k count w now older less (rw shut at h))
        | inl opens ↦
            let side : ℕ = weight n (front shown older ++ neg_ℤ i.lit ∷ []) in
            let whole : ℕ = weight n (front shown older) in
            let (pays, rest) = and_parts (nat_le (side + w + now) (whole + count i.level)) (nat_le (count i.level) now && weighs shown n base count p whole (count i.level) older) (rw opens at h) in
            let (rose, before) = and_parts (nat_le (count i.level) now) (weighs shown n base count p whole (count i.level) older) rest in
            let up = leb-true (count i.level) now rose in
            let paid = leb-true (side + w + now) (whole + count i.level) pays in
            elim (cases_Bool (is_open shown k i)) [
              | inl high ↦ let fewer = next_count_few k count whole (count i.level) older less before in rw high (omega arith)
              | inr low ↦ rw low (next_count_few k count w now older less (weighs_less shown n base p count whole w (count i.level) now older (omega arith) up before))
            ]
      ]
    where
      shut_above : is_open shown base i ≡ false → is_open shown k i ≡ false
      shut_above shut = false_from_ne_true (is_open shown k i) λ opens.
          (let (both, high) = and_parts (is_decided i.kind && seen shown i) (nat_lt k i.level) opens in
          let up = ltb-true k i.level high in
          both_ways (is_open shown base i) shut (and_from (is_decided i.kind && seen shown i) (nat_lt base i.level) both (lt-ltb base i.level (omega arith))))

  -- the leaves since then are paid for by what weighs below it
  pub weighs_since : (k : ℕ) (q : List ℤ) (count : ℕ → ℕ) (w now gone : ℕ) (trail : List Item) → base ≤ k → next_count shown k count now trail ≡ gone → next_weight n shown k w trail ≤ weight n q → weighs shown n base count p w now trail ≡ true → weighs shown n k (λ j. count j - gone) q w (now - gone) trail ≡ true
  weighs_since k q count w now gone [] less same fits h = le-leb (w + (now - gone)) (weight n q) (omega arith)
  weighs_since k q count w now gone (i ∷ older) less same fits h =
      elim (cases_Bool (is_open shown base i)) [
        | inr shut ↦ rw (shut_above shut) (weighs_since k q count w now gone older less (rw (shut_above shut) at same) (rw (shut_above shut) at fits) (rw shut at h))
        | inl opens ↦
            let side : ℕ = weight n (front shown older ++ neg_ℤ i.lit ∷ []) in
            let whole : ℕ = weight n (front shown older) in
            let (pays, rest) = and_parts (nat_le (side + w + now) (whole + count i.level)) (nat_le (count i.level) now && weighs shown n base count p whole (count i.level) older) (rw opens at h) in
            let (rose, before) = and_parts (nat_le (count i.level) now) (weighs shown n base count p whole (count i.level) older) rest in
            let up = leb-true (count i.level) now rose in
            let paid = leb-true (side + w + now) (whole + count i.level) pays in
            elim (cases_Bool (is_open shown k i)) [
              | inl high ↦
                  let here : next_count shown k count (count i.level) older ≡ gone = rw high at same in
                  let fewer = next_count_few k count whole (count i.level) older less before in
                  let further = weighs_since k q count whole (count i.level) gone older less here (rw high at fits) before in
                  rw high (and_from (nat_le (side + w + (now - gone)) (whole + (count i.level - gone))) (nat_le (count i.level - gone) (now - gone) && weighs shown n k (λ j. count j - gone) q whole (count i.level - gone) older)
                  (le-leb (side + w + (now - gone)) (whole + (count i.level - gone)) (omega arith))
                  (and_from (nat_le (count i.level - gone) (now - gone)) (weighs shown n k (λ j. count j - gone) q whole (count i.level - gone) older) (le-leb (count i.level - gone) (now - gone) (omega arith)) further))
              | inr low ↦ rw low (weighs_since k q count w now gone older less (rw low at same) (rw low at fits) (weighs_less shown n base p count whole w (count i.level) now older (omega arith) up before))
            ]
      ]
    where
      shut_above : is_open shown base i ≡ false → is_open shown k i ≡ false
      shut_above shut = false_from_ne_true (is_open shown k i) λ opens.
          (let (both, high) = and_parts (is_decided i.kind && seen shown i) (nat_lt k i.level) opens in
          let up = ltb-true k i.level high in
          both_ways (is_open shown base i) shut (and_from (is_decided i.kind && seen shown i) (nat_lt base i.level) both (lt-ltb base i.level (omega arith))))

-- ---- what weighs below it is the kept prefix

module _ (f : List (List ℤ)) (shown : ℕ → Bool) (n k : ℕ) where
  -- where some decision is open above the level, what weighs below the present prefix doesn't matter
  next_weight_any : (w v : ℕ) (trail : List Item) → list_any (is_open shown k) trail ≡ true → next_weight n shown k w trail ≡ next_weight n shown k v trail
  next_weight_any w v [] some = absurd (both_ways false refl some)
  next_weight_any w v (i ∷ older) some = elim (cases_Bool (is_open shown k i)) [
    | inl opens ↦ rw opens refl
    | inr shut ↦ rw shut (next_weight_any w v older (elim (or_cases (is_open shown k i) (list_any (is_open shown k) older) some) [
      | inl here ↦ absurd (both_ways (is_open shown k i) shut here)
      | inr before ↦ before
    ]))
  ]

  -- a level above k has a decision, which is open where all choices are shown
  some_open : (trail : List Item) → Steady f shown trail → k < depth trail → list_all (λ i. not (is_chosen i.kind) || seen shown i) trail ≡ true → list_any (is_open shown k) trail ≡ true
  some_open [] s high all = absurd (omega arith)
  some_open (i ∷ older) s high all =
      let (now, rest) = and_parts (not (is_chosen i.kind) || seen shown i) (list_all (λ j. not (is_chosen j.kind) || seen shown j) older) all in
      elim (cases_Bool (is_decided i.kind)) [
        | inr flat ↦ or_right (is_open shown k i) (list_any (is_open shown k) older) (some_open older s.1 (rw flat at high) rest)
        | inl decided ↦ or_left (is_open shown k i) (list_any (is_open shown k) older)
            (and_from (is_decided i.kind && seen shown i) (nat_lt k i.level)
            (and_from (is_decided i.kind) (seen shown i) decided (elim (or_cases (not (is_chosen i.kind)) (seen shown i) now) [
              | inl unchosen ↦ absurd (both_ways (is_chosen i.kind) (not-true (is_chosen i.kind) unchosen) (chosen i.kind decided))
              | inr shows ↦ shows
            ]))
            (lt-ltb k i.level (rw decided at high)))
      ]
    where
      chosen : (c : Kind) → is_decided c ≡ true → is_chosen c ≡ true
      chosen Assumed e = refl
      chosen Decided e = refl
      chosen Flipped e = e
      chosen (Turned w) e = e
      chosen (Implied w) e = e

  pub next_weight_kept : (trail : List Item) → Steady f shown trail → next_weight n shown k (weight n (front shown trail)) trail ≡ weight n (front shown (root k trail))
  next_weight_kept [] s = refl
  next_weight_kept (i ∷ older) s = elim (cases_le (depth (i ∷ older)) k) [
    | inl low ↦ next_weight_low f shown k n (weight n (front shown (i ∷ older))) (i ∷ older) s low ∙ ap (λ x. weight n (front shown x)) (sym (root_whole k (i ∷ older) low))
    | inr high ↦ step high (next_weight_kept older s.1) ∙ ap (λ x. weight n (front shown x)) (sym (root_above k i older high))
  ]
    where
      shut_undecided : is_decided i.kind ≡ false → is_open shown k i ≡ false
      shut_undecided e = and_left (is_decided i.kind && seen shown i) (nat_lt k i.level) (and_left (is_decided i.kind) (seen shown i) e)

      -- a shown literal that isn't decided stands above some open decision
      fronted : is_decided i.kind ≡ false → seen shown i ≡ true → k < depth (i ∷ older) → next_weight n shown k (weight n (front shown older)) older ≡ weight n (front shown (root k older)) → next_weight n shown k (weight n (front shown (i ∷ older))) (i ∷ older) ≡ weight n (front shown (root k older))
      fronted flat shows high before =
          rw (shut_undecided flat) (next_weight_any (weight n (front shown (i ∷ older))) (weight n (front shown older)) older
          (some_open older s.1 (rw flat at high) (chosen_seen f shown (nat_abs i.lit) shows older s.1 s.0.fresh)) ∙ before)

      step : k < depth (i ∷ older) → next_weight n shown k (weight n (front shown older)) older ≡ weight n (front shown (root k older)) → next_weight n shown k (weight n (front shown (i ∷ older))) (i ∷ older) ≡ weight n (front shown (root k older))
      step high before = elim (cases_Bool (seen shown i)) [
        | inr hides ↦ rw (and_left (is_decided i.kind && seen shown i) (nat_lt k i.level) (and_right (is_decided i.kind) (seen shown i) hides), hides) before
        | inl shows ↦ elim (cases_Bool (is_decided i.kind)) [
          | inr flat ↦ fronted flat shows high before
          | inl decided ↦ rw (and_from (is_decided i.kind && seen shown i) (nat_lt k i.level) (and_from (is_decided i.kind) (seen shown i) decided shows) (lt-ltb k i.level (rw decided at high))) before
        ]
      ]

-- ---- as it is read off the level of the trail

module _ (f : List (List ℤ)) (shown : ℕ → Bool) (k : ℕ) where
  -- the decision of the next level, where it is shown
  pub next_count_shown : (count : ℕ → ℕ) (now : ℕ) (newer : List Item) (d : Item) (older : List Item) → Steady f shown (newer ++ d ∷ older) → d.kind ≡ Decided → d.level ≡ suc k → seen shown d ≡ true → next_count shown k count now (newer ++ d ∷ older) ≡ count (suc k)
  next_count_shown count now [] d older s decided next shows =
      let opens : d.level ≡ suc (depth older) = (fine_decided f shown d older s.0 decided).opens in
      rw (and_from (is_decided d.kind && seen shown d) (nat_lt k d.level) (and_from (is_decided d.kind) (seen shown d) (rw decided refl) shows) (lt-ltb k d.level (omega arith)))
      (next_count_low f shown k count (count d.level) older s.1 (omega arith) ∙ ap count next)
  next_count_shown count now (i ∷ newer) d older s decided next shows = elim (cases_Bool (is_open shown k i)) [
    | inl opens ↦ rw opens (next_count_shown count (count i.level) newer d older s.1 decided next shows)
    | inr shut ↦ rw shut (next_count_shown count now newer d older s.1 decided next shows)
  ]

  -- and where it is hidden
  pub next_count_hidden : (count : ℕ → ℕ) (now : ℕ) (newer : List Item) (d : Item) (older : List Item) → Steady f shown (newer ++ d ∷ older) → d.kind ≡ Decided → d.level ≡ suc k → seen shown d ≡ false → next_count shown k count now (newer ++ d ∷ older) ≡ now
  next_count_hidden count now [] d older s decided next hides =
      let opens : d.level ≡ suc (depth older) = (fine_decided f shown d older s.0 decided).opens in
      rw (shut_hidden shown k d hides) (next_count_low f shown k count now older s.1 (omega arith))
  next_count_hidden count now (i ∷ newer) d older s decided next hides =
      rw (shut_hidden shown k i (hidden i newer s)) (next_count_hidden count now newer d older s.1 decided next hides)
    where
      hidden : (j : Item) (part : List Item) → Steady f shown (j ∷ (part ++ d ∷ older)) → seen shown j ≡ false
      hidden j part z = not-true (seen shown j) (and_parts (not (seen shown j)) (list_all (λ x. not (seen shown x)) part)
          (newer_hidden shown f (j ∷ part) (d ∷ older) z (λ v h. assigned_newer v (d ∷ []) older ((fine_decided f shown d older (steady_older f shown (j ∷ part) (d ∷ older) z).0 decided).late hides v h)))).0

-- where the decision of the next level is hidden, or there is none, nothing is untried
pub untried_hidden : (f : List (List ℤ)) (shown : ℕ → Bool) (base : ℕ) (newer : List Item) (d : Item) (older : List Item) → Steady f shown (newer ++ d ∷ older) → d.kind ≡ Decided → d.level ≡ suc base → seen shown d ≡ false → untried shown base (newer ++ d ∷ older) ≡ []
untried_hidden f shown base newer d older s decided next hides =
    let fine = fine_decided f shown d older (steady_older f shown newer (d ∷ older) s).0 decided in
    let opens = fine.opens in
    untried_shut shown base newer (d ∷ older) (shut_all_hidden shown base newer (newer_hidden shown f newer (d ∷ older) s (λ v h. assigned_newer v (d ∷ []) older (fine.late hides v h))))
    ∙ rw (shut_hidden shown base d hides) (untried_low shown base older (levels_within f shown base older (steady_older f shown newer (d ∷ older) s).1 (omega arith)))

pub untried_none : (f : List (List ℤ)) (shown : ℕ → Bool) (base : ℕ) (trail : List Item) → Steady f shown trail → depth trail ≤ base → untried shown base trail ≡ []
untried_none f shown base trail s low = untried_low shown base trail (levels_within f shown base trail s low)
