-- Taking levels back keeps a trail steady.
use Rattle.std.proofs.Common.{◌≡◌, ℕ, suc, ◌<◌, ◌≤◌, min, Bool, true, false, not, ◌&&◌, ◌||◌, nat_le, nat_eq, ℤ, neg_ℤ, nat_abs, List, [], ◌∷◌, ◌++◌, filter, refl, sym, ap, ◌∙◌, inl, inr, arith}
use Rattle.std.specs.List.{list_any, list_all}
use Rattle.std.specs.Ordering.{int_eq}
use Rattle.std.proofs.lemmas.Bool.{and_parts, and_from, or_cases, or_parts, or_from, or_left, or_right, both_ways, false_from_ne_true, cases_Bool, lt-leb, leb-true, leb-false, eq-eqb, eqb-true}
use Rattle.std.proofs.lemmas.List.Folds.{list_any-append}
use Rattle.std.proofs.lemmas.List.Elements.{filter-append}
use Rattle.search_region.specs.Trail.{Item, Kind, Assumed, Decided, Flipped, Turned, Implied, depth, upto, back, branches, is_assigned, false_by, is_decided, is_branch}
use Rattle.search_region.specs.Steady.{Steady, FineKind, FineForced}
use Rattle.search_region.proofs.Literals.{all_weaker}
use Rattle.search_region.proofs.Agree.{levels_within, level_bound}

pub filter_all : {X : Type 0} (p : X → Bool) (xs : List X) → list_all p xs ≡ true → filter p xs ≡ xs
filter_all p [] h = refl
filter_all p (x ∷ xs) h =
    let (now, rest) = and_parts (p x) (list_all p xs) h in
    rw now (ap (λ ys. x ∷ ys) (filter_all p xs rest))

pub none_in_filter : {X : Type 0} (p q : X → Bool) (xs : List X) → list_any p xs ≡ false → list_any p (filter q xs) ≡ false
none_in_filter p q [] h = refl
none_in_filter p q (x ∷ xs) h =
    let (now, rest) = or_parts (p x) (list_any p xs) h in
    elim (cases_Bool (q x)) [
      | inl e ↦ rw e (or_from (p x) (list_any p (filter q xs)) now (none_in_filter p q xs rest))
      | inr e ↦ rw e (none_in_filter p q xs rest)
    ]

pub all_in_filter : {X : Type 0} (p q : X → Bool) (xs : List X) → list_all p xs ≡ true → list_all p (filter q xs) ≡ true
all_in_filter p q [] h = refl
all_in_filter p q (x ∷ xs) h =
    let (now, rest) = and_parts (p x) (list_all p xs) h in
    elim (cases_Bool (q x)) [
      | inl e ↦ rw e (and_from (p x) (list_all p (filter q xs)) now (all_in_filter p q xs rest))
      | inr e ↦ rw e (all_in_filter p q xs rest)
    ]

-- what is false by a low level stays so
pub false_by_back : (m k : ℕ) (l : ℤ) → m ≤ k → (trail : List Item) → false_by m trail l ≡ true → false_by m (back k trail) l ≡ true
false_by_back m k l low [] h = h
false_by_back m k l low (i ∷ older) h =
    elim (cases_Bool (nat_le i.level k)) [
      | inl stays ↦ rw stays (elim (or_cases (int_eq l (neg_ℤ i.lit) && nat_le i.level m) (false_by m older l) h) [
        | inl e ↦ or_left (int_eq l (neg_ℤ i.lit) && nat_le i.level m) (false_by m (back k older) l) e
        | inr e ↦ or_right (int_eq l (neg_ℤ i.lit) && nat_le i.level m) (false_by m (back k older) l) (false_by_back m k l low older e)
      ])
      | inr goes ↦ rw goes (elim (or_cases (int_eq l (neg_ℤ i.lit) && nat_le i.level m) (false_by m older l) h) [
        | inl e ↦ let e1 = leb-true i.level m (and_parts (int_eq l (neg_ℤ i.lit)) (nat_le i.level m) e).1 in
            let e2 = leb-false i.level k goes in
            absurd (omega arith)
        | inr e ↦ false_by_back m k l low older e
      ])
    ]

module _ (f : List (List ℤ)) (shown : ℕ → Bool) where
  -- where no level above k is open, nothing goes
  pub back_whole : (k : ℕ) (trail : List Item) → Steady f shown trail → depth trail ≤ k → back k trail ≡ trail
  back_whole k trail s h = filter_all (upto k) trail (levels_within f shown k trail s h)

  depth_step : (k : ℕ) (i : Item) (older : List Item) → (d : Kind) → i.kind ≡ d → FineKind f shown d i older → depth (back k older) ≡ min k (depth older) → depth (back k (i ∷ older)) ≡ min k (depth (i ∷ older))
  depth_step k i older Assumed e h before = elim (cases_Bool (nat_le i.level k)) [ inl c ↦ rw (c, e) before | inr c ↦ rw (c, e) before ]
  depth_step k i older Decided e h before =
      let opens = h.opens in
      elim (cases_Bool (nat_le i.level k)) [
        | inl c ↦ let low = leb-true i.level k c in rw (c, e) (omega arith)
        | inr c ↦ let high = leb-false i.level k c in rw (c, e) (omega arith)
      ]
  depth_step k i older Flipped e h before = elim (cases_Bool (nat_le i.level k)) [ inl c ↦ rw (c, e) before | inr c ↦ rw (c, e) before ]
  depth_step k i older (Turned w) e h before = elim (cases_Bool (nat_le i.level k)) [ inl c ↦ rw (c, e) before | inr c ↦ rw (c, e) before ]
  depth_step k i older (Implied w) e h before = elim (cases_Bool (nat_le i.level k)) [ inl c ↦ rw (c, e) before | inr c ↦ rw (c, e) before ]

  pub depth_back : (k : ℕ) (trail : List Item) → Steady f shown trail → depth (back k trail) ≡ min k (depth trail)
  depth_back k [] s = omega arith
  depth_back k (i ∷ older) s = depth_step k i older i.kind refl s.0.kinds (depth_back k older s.1)

  forced_back : (k : ℕ) (c : List ℤ) (i : Item) (older : List Item) → FineForced f c i older → Steady f shown older → i.level ≤ k → FineForced f c i (back k older)
  forced_back k c i older h s low = record {
    bound = (let now = depth_back k older s in let bound = h.bound in omega arith);
    follows = h.follows;
    reason = all_weaker (λ l. int_eq l i.lit || false_by i.level older l) (λ l. int_eq l i.lit || false_by i.level (back k older) l)
        (λ l e. elim (or_cases (int_eq l i.lit) (false_by i.level older l) e) [
          | inl same ↦ or_left (int_eq l i.lit) (false_by i.level (back k older) l) same
          | inr wrong ↦ or_right (int_eq l i.lit) (false_by i.level (back k older) l) (false_by_back i.level k l low older wrong)
        ])
        c h.reason;
  }

  kind_back : (k : ℕ) (i : Item) (older : List Item) → (d : Kind) → FineKind f shown d i older → Steady f shown older → i.level ≤ k → FineKind f shown d i (back k older)
  kind_back k i older Assumed h s low = record {
    lowest = h.lowest;
    first = (let now = depth_back k older s in let first = h.first in omega arith);
    over = h.over;
  }
  kind_back k i older Decided h s low = let opens = h.opens in rw (back_whole k older s (omega arith)) h
  kind_back k i older Flipped h s low = let stays = h.stays in rw (back_whole k older s (omega arith)) h
  kind_back k i older (Turned c) h s low = forced_back k c i older h s low
  kind_back k i older (Implied c) h s low = forced_back k c i older h s low

  pub steady_back : (k : ℕ) (trail : List Item) → Steady f shown trail → Steady f shown (back k trail)
  steady_back k [] s = tt
  steady_back k (i ∷ older) s =
      elim (cases_Bool (nat_le i.level k)) [
        | inl c ↦ rw c (
          record {
            named = s.0.named;
            fresh = none_in_filter (λ j. nat_eq (nat_abs i.lit) (nat_abs j.lit)) (upto k) older s.0.fresh;
            kinds = kind_back k i older i.kind s.0.kinds s.1 (leb-true i.level k c);
          },
          steady_back k older s.1,
        )
        | inr c ↦ rw c (steady_back k older s.1)
      ]

  -- the older part of a steady trail is steady
  pub steady_older : (newer older : List Item) → Steady f shown (newer ++ older) → Steady f shown older
  steady_older [] older s = s
  steady_older (i ∷ newer) older s = steady_older newer older s.1

  -- levels don't fall along a trail
  pub depth_rises : (newer older : List Item) → Steady f shown (newer ++ older) → depth older ≤ depth (newer ++ older)
  depth_rises [] older s = omega arith
  depth_rises (i ∷ newer) older s =
      let rest = depth_rises newer older s.1 in
      let step = (level_bound f shown i (newer ++ older) s.0).1 in
      omega arith

  -- taking back to below a decision leaves what was older, and of what is newer the items of older levels
  pub back_split : (newer : List Item) (d : Item) (older : List Item) → Steady f shown (newer ++ d ∷ older) → d.level ≡ suc (depth older) → back (depth older) (newer ++ d ∷ older) ≡ back (depth older) newer ++ older
  back_split newer d older s e =
      filter-append (upto (depth older)) newer (d ∷ older)
      ∙ ap (λ rest. back (depth older) newer ++ rest)
      (rw (lt-leb d.level (depth older) (omega arith)) (back_whole (depth older) older (steady_older newer (d ∷ older) s).1 (omega arith)))

  -- these are forced ones
  pub newer_forced : (newer : List Item) (d : Item) (older : List Item) → Steady f shown (newer ++ d ∷ older) → is_decided d.kind ≡ true → d.level ≡ suc (depth older) → list_all (λ i. not (branches i)) (back (depth older) newer) ≡ true
  newer_forced [] d older s e l = refl
  newer_forced (i ∷ newer) d older s e l = by_kind i.kind refl s.0.kinds (newer_forced newer d older s.1 e l) (depth_rises newer (d ∷ older) s.1)
    where
      k : ℕ
      k = depth older

      above : depth (d ∷ older) ≡ suc (depth older)
      above = rw e l

      goes : depth older < i.level → list_all (λ j. not (branches j)) (back (depth older) newer) ≡ true → list_all (λ j. not (branches j)) (back (depth older) (i ∷ newer)) ≡ true
      goes high before = rw (lt-leb i.level (depth older) high) before

      stays : is_branch i.kind ≡ false → list_all (λ j. not (branches j)) (back (depth older) newer) ≡ true → list_all (λ j. not (branches j)) (back (depth older) (i ∷ newer)) ≡ true
      stays b before = elim (cases_Bool (nat_le i.level (depth older))) [
        | inl c ↦ rw c (and_from (not (branches i)) (list_all (λ j. not (branches j)) (back (depth older) newer)) (rw b refl) before)
        | inr c ↦ rw c before
      ]

      by_kind : (c : Kind) → i.kind ≡ c → FineKind f shown c i (newer ++ d ∷ older) → list_all (λ j. not (branches j)) (back (depth older) newer) ≡ true → depth (d ∷ older) ≤ depth (newer ++ d ∷ older) → list_all (λ j. not (branches j)) (back (depth older) (i ∷ newer)) ≡ true
      by_kind Assumed c h before rises = let first = h.first in let up = above in absurd (omega arith)
      by_kind Decided c h before rises = let opens = h.opens in let up = above in goes (omega arith) before
      by_kind Flipped c h before rises = let on = h.stays in let up = above in goes (omega arith) before
      by_kind (Turned w) c h before rises = stays (ap is_branch c) before
      by_kind (Implied w) c h before rises = stays (ap is_branch c) before

  -- the decision's variable has no other literal on the trail
  pub unassigned_newer : (newer : List Item) (d : Item) (older : List Item) → Steady f shown (newer ++ d ∷ older) → is_assigned (nat_abs d.lit) newer ≡ false
  unassigned_newer [] d older s = refl
  unassigned_newer (i ∷ newer) d older s =
      or_from (nat_eq (nat_abs d.lit) (nat_abs i.lit)) (is_assigned (nat_abs d.lit) newer)
      (false_from_ne_true (nat_eq (nat_abs d.lit) (nat_abs i.lit)) λ same.
      both_ways (is_assigned (nat_abs i.lit) (newer ++ d ∷ older)) s.0.fresh
      (list_any-append (λ j. nat_eq (nat_abs i.lit) (nat_abs j.lit)) newer (d ∷ older)
      ∙ or_right (is_assigned (nat_abs i.lit) newer) (is_assigned (nat_abs i.lit) (d ∷ older))
      (or_left (nat_eq (nat_abs i.lit) (nat_abs d.lit)) (is_assigned (nat_abs i.lit) older) (eq-eqb (nat_abs i.lit) (nat_abs d.lit) (sym (eqb-true (nat_abs d.lit) (nat_abs i.lit) same))))))
      (unassigned_newer newer d older s.1)
