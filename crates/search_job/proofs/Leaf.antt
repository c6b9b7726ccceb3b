-- What a turn costs: an item in the place of a decision, whatever its kind. Where the decision is shown, a leaf of the
-- search is paid for; where it is hidden, nothing that is left open changes.
use Rattle.std.proofs.Common.{◌≡◌, ℕ, ◌+◌, ◌<◌, ◌≤◌, Bool, true, false, not, ◌&&◌, cond, nat_lt, ℤ, neg_ℤ, nat_abs, List, [], ◌∷◌, ◌++◌, length, refl, sym, ap, ap₂, subst, ◌∙◌, inl, inr, arith, length-append}
use Rattle.std.specs.List.{list_all}
use Rattle.std.proofs.lemmas.Bool.{and_parts, and_from, and_left, and_right, both_ways, cases_Bool, false_from_ne_true, not-true, not_from_false, lt-ltb, leb-true, ltb-true}
use Rattle.search_region.specs.Trail.{Item, Kind, Assumed, Decided, Flipped, Turned, Implied, depth, upto, back, turn_with, branches, seen, is_assigned, is_branch, is_decided, is_implied}
use Rattle.search_region.specs.Steady.{Steady, IsFull}
use Rattle.search_region.specs.Region.{front, untried, is_open, left_open}
use Rattle.search_region.proofs.Back.{all_in_filter, steady_older}
use Rattle.search_region.proofs.Flip.{fine_decided, assigned_newer}
use Rattle.search_region.proofs.Cut.{split, forced}
use Rattle.search_job.specs.Weights.{weight, weights, weighs}
use Rattle.search_job.proofs.Weights.{weight_some, weight_longer, weights_push, weighs_less, weighs_shut, weighs_at}

-- ---- items that open nothing

undecided_forced : (k : Kind) → is_branch k ≡ false → is_decided k ≡ false
undecided_forced Assumed e = refl
undecided_forced Decided e = e
undecided_forced Flipped e = refl
undecided_forced (Turned c) e = refl
undecided_forced (Implied c) e = refl

pub shut_undecided : (shown : ℕ → Bool) (base : ℕ) (i : Item) → is_decided i.kind ≡ false → is_open shown base i ≡ false
shut_undecided shown base i e = and_left (is_decided i.kind && seen shown i) (nat_lt base i.level) (and_left (is_decided i.kind) (seen shown i) e)

pub shut_hidden : (shown : ℕ → Bool) (base : ℕ) (i : Item) → seen shown i ≡ false → is_open shown base i ≡ false
shut_hidden shown base i e = and_left (is_decided i.kind && seen shown i) (nat_lt base i.level) (and_right (is_decided i.kind) (seen shown i) e)

pub shut_upto : (shown : ℕ → Bool) (base : ℕ) (i : Item) → upto base i ≡ true → is_open shown base i ≡ false
shut_upto shown base i low = and_right (is_decided i.kind && seen shown i) (nat_lt base i.level) (false_from_ne_true (nat_lt base i.level) λ high. (let few = leb-true i.level base low in let up = ltb-true base i.level high in omega arith))

module _ (shown : ℕ → Bool) (base : ℕ) where
  -- where each of the newer items opens nothing
  pub untried_shut : (newer older : List Item) → list_all (λ i. not (is_open shown base i)) newer ≡ true → untried shown base (newer ++ older) ≡ untried shown base older
  untried_shut [] older h = refl
  untried_shut (i ∷ newer) older h =
      let (now, rest) = and_parts (not (is_open shown base i)) (list_all (λ j. not (is_open shown base j)) newer) h in
      rw (not-true (is_open shown base i) now) (untried_shut newer older rest)

  pub weighs_all_shut : (n : ℕ) (p : List ℤ) (count : ℕ → ℕ) (w now : ℕ) (newer older : List Item) → list_all (λ i. not (is_open shown base i)) newer ≡ true → weighs shown n base count p w now (newer ++ older) ≡ weighs shown n base count p w now older
  weighs_all_shut n p count w now [] older h = refl
  weighs_all_shut n p count w now (i ∷ newer) older h =
      let (now_shut, rest) = and_parts (not (is_open shown base i)) (list_all (λ j. not (is_open shown base j)) newer) h in
      weighs_shut shown n base p count w now i (newer ++ older) (not-true (is_open shown base i) now_shut) ∙ weighs_all_shut n p count w now newer older rest

  -- items that stand by a clause open nothing
  shut_forced : (items : List Item) → list_all (λ i. not (branches i)) items ≡ true → list_all (λ i. not (is_open shown base i)) items ≡ true
  shut_forced [] h = refl
  shut_forced (i ∷ items) h =
      let (now, rest) = and_parts (not (branches i)) (list_all (λ j. not (branches j)) items) h in
      and_from (not (is_open shown base i)) (list_all (λ j. not (is_open shown base j)) items) (not_from_false (is_open shown base i) (shut_undecided shown base i (undecided_forced i.kind (not-true (branches i) now)))) (shut_forced items rest)

  -- nor do hidden ones
  pub shut_all_hidden : (items : List Item) → list_all (λ i. not (seen shown i)) items ≡ true → list_all (λ i. not (is_open shown base i)) items ≡ true
  shut_all_hidden [] h = refl
  shut_all_hidden (i ∷ items) h =
      let (now, rest) = and_parts (not (seen shown i)) (list_all (λ j. not (seen shown j)) items) h in
      and_from (not (is_open shown base i)) (list_all (λ j. not (is_open shown base j)) items) (not_from_false (is_open shown base i) (shut_hidden shown base i (not-true (seen shown i) now))) (shut_all_hidden items rest)

  -- what is untried among older items stays so
  pub untried_newer : (n : ℕ) (newer older : List Item) → weights n (untried shown base older) ≤ weights n (untried shown base (newer ++ older))
  untried_newer n [] older = omega arith
  untried_newer n (i ∷ newer) older =
      let before = untried_newer n newer older in
      elim (cases_Bool (is_open shown base i)) [
        | inl opens ↦ let more = weights_push n (untried shown base (newer ++ older)) (front shown (newer ++ older) ++ neg_ℤ i.lit ∷ []) in rw opens (omega arith)
        | inr shut ↦ rw shut before
      ]

-- ---- the present prefix

module _ (shown : ℕ → Bool) where
  pub front_longer : (newer older : List Item) → length (front shown older) ≤ length (front shown (newer ++ older))
  front_longer [] older = omega arith
  front_longer (i ∷ newer) older =
      let before = front_longer newer older in
      elim (cases_Bool (seen shown i && not (is_implied i.kind))) [
        | inl fronts ↦ let more = length-append (front shown (newer ++ older)) (i.lit ∷ []) in rw fronts (omega arith)
        | inr out ↦ rw out before
      ]

  -- hidden items aren't in it
  pub front_hidden : (newer older : List Item) → list_all (λ i. not (seen shown i)) newer ≡ true → front shown (newer ++ older) ≡ front shown older
  front_hidden [] older h = refl
  front_hidden (i ∷ newer) older h =
      let (now, rest) = and_parts (not (seen shown i)) (list_all (λ j. not (seen shown j)) newer) h in
      rw (not-true (seen shown i) now) (front_hidden newer older rest)

  -- once all shown variables are assigned, newer items are hidden
  pub newer_hidden : (f : List (List ℤ)) (newer older : List Item) → Steady f shown (newer ++ older) → IsFull shown older → list_all (λ i. not (seen shown i)) newer ≡ true
  newer_hidden f [] older s full = refl
  newer_hidden f (i ∷ newer) older s full =
      and_from (not (seen shown i)) (list_all (λ j. not (seen shown j)) newer)
      (not_from_false (seen shown i) (false_from_ne_true (seen shown i) λ shows. both_ways (is_assigned (nat_abs i.lit) (newer ++ older)) s.0.fresh (assigned_newer (nat_abs i.lit) newer older (full (nat_abs i.lit) shows))))
      (newer_hidden f newer older s.1 full)

-- ---- a turn

module _ (f : List (List ℤ)) (shown : ℕ → Bool) (n base : ℕ) (newer : List Item) (d e : Item) (older : List Item) (s : Steady f shown (newer ++ d ∷ older)) (decided : d.kind ≡ Decided) (above : base < d.level) (undecided : is_decided e.kind ≡ false) (unimplied : is_implied e.kind ≡ false) (same : nat_abs e.lit ≡ nat_abs d.lit) where
  forced_shut : list_all (λ i. not (is_open shown base i)) (back (depth older) newer) ≡ true
  forced_shut = shut_forced shown base (back (depth older) newer) (forced f shown newer d older s decided)

  kept : back (depth older) (newer ++ d ∷ older) ≡ back (depth older) newer ++ older
  kept = split f shown newer d older s decided

  untried_turn : untried shown base (turn_with e newer d older) ≡ untried shown base older
  untried_turn = rw (shut_undecided shown base e undecided) (ap (untried shown base) kept ∙ untried_shut shown base (back (depth older) newer) older forced_shut)

  weighs_turn : (p : List ℤ) (count : ℕ → ℕ) (w now : ℕ) → weighs shown n base count p w now (turn_with e newer d older) ≡ weighs shown n base count p w now older
  weighs_turn p count w now =
      weighs_shut shown n base p count w now e (back (depth older) (newer ++ d ∷ older)) (shut_undecided shown base e undecided)
      ∙ ap (weighs shown n base count p w now) kept
      ∙ weighs_all_shut shown base n p count w now (back (depth older) newer) older forced_shut

  module _ (shows : seen shown d ≡ true) where
    opens : is_open shown base d ≡ true
    opens = and_from (is_decided d.kind && seen shown d) (nat_lt base d.level) (and_from (is_decided d.kind) (seen shown d) (rw decided refl) shows) (lt-ltb base d.level above)

    -- the present prefix then is within the decision's other side
    front_turn : weight n (front shown (turn_with e newer d older)) ≤ weight n (front shown older ++ neg_ℤ d.lit ∷ [])
    front_turn = weight_longer n (front shown older ++ neg_ℤ d.lit ∷ []) (front shown (turn_with e newer d older))
        (let fronts : front shown (turn_with e newer d older) ≡ front shown (back (depth older) newer ++ older) ++ e.lit ∷ [] = rw (same, shows, unimplied, kept) refl in
        let longer = front_longer shown (back (depth older) newer) older in
        let one = length-append (front shown older) (neg_ℤ d.lit ∷ []) in
        let other = length-append (front shown (back (depth older) newer ++ older)) (e.lit ∷ []) in
        let whole : length (front shown (turn_with e newer d older)) ≡ length (front shown (back (depth older) newer ++ older) ++ e.lit ∷ []) = ap length fronts in
        omega arith)

    weighs_shown : (p : List ℤ) (count : ℕ → ℕ) (now then : ℕ) → now ≤ then → then ≤ now + 1 → weighs shown n base count p (weight n (front shown (newer ++ d ∷ older))) now (newer ++ d ∷ older) ≡ true → weighs shown n base count p (weight n (front shown (turn_with e newer d older))) then (turn_with e newer d older) ≡ true
    weighs_shown p count now then later most h =
        let there = weighs_at shown n base p count (weight n (front shown (newer ++ d ∷ older))) now newer d older opens h in
        let pays = there.0 in
        let rose = there.1 in
        let some = weight_some n (front shown (newer ++ d ∷ older)) in
        let less = front_turn in
        weighs_turn p count (weight n (front shown (turn_with e newer d older))) then
        ∙ weighs_less shown n base p count (weight n (front shown older)) (weight n (front shown (turn_with e newer d older))) (count d.level) then older (omega arith) (omega arith) there.2

    left_shown : weights n (left_open shown base (turn_with e newer d older)) + 1 ≤ weights n (left_open shown base (newer ++ d ∷ older))
    left_shown =
        let now = weights_push n (untried shown base (turn_with e newer d older)) (front shown (turn_with e newer d older)) in
        let was = weights_push n (untried shown base (newer ++ d ∷ older)) (front shown (newer ++ d ∷ older)) in
        let old : weights n (untried shown base (turn_with e newer d older)) ≡ weights n (untried shown base older) = ap (weights n) untried_turn in
        let rises = untried_newer shown base n newer (d ∷ older) in
        let with_d : weights n (untried shown base (d ∷ older)) ≡ weights n (untried shown base older) + weight n (front shown older ++ neg_ℤ d.lit ∷ []) = rw opens (weights_push n (untried shown base older) (front shown older ++ neg_ℤ d.lit ∷ [])) in
        let some = weight_some n (front shown (newer ++ d ∷ older)) in
        let less = front_turn in
        omega arith

  module _ (hides : seen shown d ≡ false) where
    full : IsFull shown (d ∷ older)
    full v h = assigned_newer v (d ∷ []) older ((fine_decided f shown d older (steady_older f shown newer (d ∷ older) s).0 decided).late hides v h)

    hidden : list_all (λ i. not (seen shown i)) newer ≡ true
    hidden = newer_hidden shown f newer (d ∷ older) s full

    front_was : front shown (newer ++ d ∷ older) ≡ front shown older
    front_was = front_hidden shown newer (d ∷ older) hidden ∙ rw hides refl

    front_now : front shown (turn_with e newer d older) ≡ front shown older
    front_now = rw (same, hides) (ap (front shown) kept ∙ front_hidden shown (back (depth older) newer) older (all_in_filter (λ i. not (seen shown i)) (upto (depth older)) newer hidden))

    weighs_was : (p : List ℤ) (count : ℕ → ℕ) (w now : ℕ) → weighs shown n base count p w now (newer ++ d ∷ older) ≡ weighs shown n base count p w now older
    weighs_was p count w now =
        weighs_all_shut shown base n p count w now newer (d ∷ older) (shut_all_hidden shown base newer hidden)
        ∙ weighs_shut shown n base p count w now d older (shut_hidden shown base d hides)

    weighs_hidden : (p : List ℤ) (count : ℕ → ℕ) (now : ℕ) → weighs shown n base count p (weight n (front shown (newer ++ d ∷ older))) now (newer ++ d ∷ older) ≡ true → weighs shown n base count p (weight n (front shown (turn_with e newer d older))) now (turn_with e newer d older) ≡ true
    weighs_hidden p count now h =
        weighs_turn p count (weight n (front shown (turn_with e newer d older))) now
        ∙ ap (λ w. weighs shown n base count p (weight n w) now older) (front_now ∙ sym front_was)
        ∙ sym (weighs_was p count (weight n (front shown (newer ++ d ∷ older))) now)
        ∙ h

    left_hidden : left_open shown base (turn_with e newer d older) ≡ left_open shown base (newer ++ d ∷ older)
    left_hidden =
        ap₂ (λ a b. a ++ b ∷ [])
        (untried_turn ∙ sym (untried_shut shown base newer (d ∷ older) (shut_all_hidden shown base newer hidden) ∙ rw (shut_hidden shown base d hides) refl))
        (front_now ∙ sym front_was)

  -- where the decision is shown, less is left open than before
  pub turn_leaves_less : weights n (left_open shown base (turn_with e newer d older)) + cond (seen shown d) 1 0 ≤ weights n (left_open shown base (newer ++ d ∷ older))
  turn_leaves_less = elim (cases_Bool (seen shown d)) [
    | inl shows ↦ let less = left_shown shows in rw shows (omega arith)
    | inr hides ↦ let alike : weights n (left_open shown base (turn_with e newer d older)) ≡ weights n (left_open shown base (newer ++ d ∷ older)) = ap (weights n) (left_hidden hides) in rw hides (omega arith)
  ]

  pub weighs_turned : (p : List ℤ) (count : ℕ → ℕ) (now then : ℕ) → now ≤ then → then ≤ now + cond (seen shown d) 1 0 → weighs shown n base count p (weight n (front shown (newer ++ d ∷ older))) now (newer ++ d ∷ older) ≡ true → weighs shown n base count p (weight n (front shown (turn_with e newer d older))) then (turn_with e newer d older) ≡ true
  weighs_turned p count now then later most h = elim (cases_Bool (seen shown d)) [
    | inl shows ↦ weighs_shown shows p count now then later (rw shows at most) h
    | inr hides ↦
        let few : then ≤ now + 0 = rw hides at most in
        let equal : now ≡ then = omega arith in
        subst (λ k. weighs shown n base count p (weight n (front shown (turn_with e newer d older))) k (turn_with e newer d older) ≡ true) equal (weighs_hidden hides p count now h)
  ]
