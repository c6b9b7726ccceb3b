-- Weights: what a leaf, a decision and a literal that is implied cost.
use Rattle.std.proofs.Common.{◌≡◌, ℕ, zero, suc, ◌+◌, ◌-◌, ◌^◌, ◌<◌, ◌≤◌, Bool, true, false, not, ◌&&◌, ◌||◌, cond, nat_le, nat_lt, nat_eq, ℤ, neg_ℤ, nat_abs, List, [], ◌∷◌, ◌++◌, length, refl, sym, ap, subst, ◌∙◌, inl, inr, arith, pow-suc, length-append}
use Rattle.std.proofs.lemmas.Nat.{pow_pos}
use Rattle.std.proofs.Math.Nat.{pow-le-pow_right}
use Rattle.std.specs.List.{list_all}
use Rattle.std.proofs.lemmas.Bool.{and_parts, and_from, or_from, cases_Bool, cases_eq, eq-eqb, ne_eqb, le-leb, leb-true, ltb-true}
use Rattle.search_region.specs.Trail.{Item, depth, is_assigned, is_decided, is_implied, seen}
use Rattle.search_region.specs.Steady.{Steady}
use Rattle.search_region.specs.Region.{front, untried, is_open}
use Rattle.search_region.proofs.Agree.{level_bound}
use Rattle.search_region.proofs.ReadCube.{rises}
use Rattle.sat_terms.specs.Cubes.{is_among}
use Rattle.search_job.specs.Weights.{weight, weights, weighs, shown_free, shown_count, AreShownUpto}

-- ---- the weight of a prefix

pub weight_some : (n : ℕ) (q : List ℤ) → 0 < weight n q
weight_some n q = pow_pos (n - length q)

longer : (q : List ℤ) (l : ℤ) → length (q ++ l ∷ []) ≡ length q + 1
longer q l = length-append q (l ∷ [])

-- a prefix that leaves a variable open is twice what it is with one literal more
pub weight_half : (n : ℕ) (q : List ℤ) (l : ℤ) → length q < n → weight n q ≡ weight n (q ++ l ∷ []) + weight n (q ++ l ∷ [])
weight_half n q l short =
    let next : n - length q ≡ suc (n - length (q ++ l ∷ [])) = (let more = longer q l in omega arith) in
    ap (λ k. 2 ^ k) next ∙ twice (n - length (q ++ l ∷ []))
  where
    twice : (k : ℕ) → 2 ^ suc k ≡ 2 ^ k + 2 ^ k
    twice k = rw pow-suc (omega arith)

-- the two literals of a variable make prefixes of one weight
pub weight_either : (n : ℕ) (q : List ℤ) (l m : ℤ) → weight n (q ++ l ∷ []) ≡ weight n (q ++ m ∷ [])
weight_either n q l m = ap (λ k. 2 ^ (n - k)) (longer q l ∙ sym (longer q m))

-- a longer prefix weighs no more
pub weight_longer : (n : ℕ) (q r : List ℤ) → length q ≤ length r → weight n r ≤ weight n q
weight_longer n q r h = pow-le-pow_right {n = 2} (omega arith) (omega arith)

pub weights-append : (n : ℕ) (cs ds : List (List ℤ)) → weights n (cs ++ ds) ≡ weights n cs + weights n ds
weights-append n [] ds = omega arith
weights-append n (c ∷ cs) ds = let rest = weights-append n cs ds in omega arith

pub weights_push : (n : ℕ) (cs : List (List ℤ)) (c : List ℤ) → weights n (cs ++ c ∷ []) ≡ weights n cs + weight n c
weights_push n cs c = let both = weights-append n cs (c ∷ []) in omega arith

-- ---- the front is short

-- the literals of the present prefix and the shown variables left are no more than there are
module _ (m : ℕ) (shown : ℕ → Bool) where
  shown_fewer : (k : ℕ) (i : Item) (older : List Item) → shown_free k shown (i ∷ older) ≤ shown_free k shown older
  shown_fewer zero i older = omega arith
  shown_fewer (suc k) i older =
      let before = shown_fewer k i older in
      let here = smaller (shown (suc k)) (nat_eq (suc k) (nat_abs i.lit)) (is_assigned (suc k) older) in
      omega arith
    where
      smaller : (s e a : Bool) → cond {A = ℕ} (s && not (e || a)) 1 0 ≤ cond (s && not a) 1 0
      smaller true true true = omega arith
      smaller true true false = omega arith
      smaller true false a = omega arith
      smaller false e a = omega arith

  shown_above : (k : ℕ) (i : Item) (older : List Item) → k < nat_abs i.lit → shown_free k shown (i ∷ older) ≡ shown_free k shown older
  shown_above zero i older h = refl
  shown_above (suc k) i older h = rw (ne_eqb (suc k) (nat_abs i.lit) (λ same. omega arith)) (ap (λ j. j + cond (shown (suc k) && not (is_assigned (suc k) older)) 1 0) (shown_above k i older (omega arith)))

  shown_push : (k : ℕ) (i : Item) (older : List Item) → seen shown i ≡ true → 0 < nat_abs i.lit → nat_abs i.lit ≤ k → is_assigned (nat_abs i.lit) older ≡ false → shown_free k shown (i ∷ older) + 1 ≡ shown_free k shown older
  shown_push zero i older shows named low fresh = absurd (omega arith)
  shown_push (suc k) i older shows named low fresh =
      elim (cases_eq (suc k) (nat_abs i.lit)) [
        | inl same ↦
            let here : cond {A = ℕ} (shown (suc k) && not (is_assigned (suc k) older)) 1 0 ≡ 1 = rw (same, shows, fresh) refl in
            let gone : cond {A = ℕ} (shown (suc k) && not (nat_eq (suc k) (nat_abs i.lit) || is_assigned (suc k) older)) 1 0 ≡ 0 = rw (eq-eqb (suc k) (nat_abs i.lit) same) (none (shown (suc k))) in
            let before = shown_above k i older (omega arith) in
            omega arith
        | inr other ↦
            let before = shown_push k i older shows named (omega arith) fresh in
            rw (ne_eqb (suc k) (nat_abs i.lit) other) (omega arith)
      ]
    where
      none : (s : Bool) → cond {A = ℕ} (s && false) 1 0 ≡ 0
      none true = refl
      none false = refl

  front_count : (f : List (List ℤ)) (trail : List Item) → AreShownUpto m shown → Steady f shown trail → length (front shown trail) + shown_free m shown trail ≤ shown_count m shown
  front_count f [] within s = omega arith
  front_count f (i ∷ older) within s =
      let before = front_count f older within s.1 in
      let fewer = shown_fewer m i older in
      elim (cases_Bool (seen shown i && not (is_implied i.kind))) [
        | inr out ↦ rw out (omega arith)
        | inl fronts ↦
            let shows = (and_parts (seen shown i) (not (is_implied i.kind)) fronts).0 in
            let less = shown_push m i older shows s.0.named (within (nat_abs i.lit) shows).1 s.0.fresh in
            let more = longer (front shown older) i.lit in
            rw fronts (omega arith)
      ]

  some_free : (k v : ℕ) (trail : List Item) → shown v ≡ true → 0 < v → v ≤ k → is_assigned v trail ≡ false → 0 < shown_free k shown trail
  some_free zero v trail shows named low free = absurd (omega arith)
  some_free (suc k) v trail shows named low free =
      elim (cases_eq v (suc k)) [
        | inl same ↦
            let here : cond {A = ℕ} (shown (suc k) && not (is_assigned (suc k) trail)) 1 0 ≡ 1 = subst (λ w. cond {A = ℕ} (shown w && not (is_assigned w trail)) 1 0 ≡ 1) same (rw (shows, free) refl) in
            omega arith
        | inr other ↦ let before = some_free k v trail shows named (omega arith) free in omega arith
      ]

  -- while a shown variable is unassigned, the present prefix leaves one open
  pub front_short : (f : List (List ℤ)) (v : ℕ) (trail : List Item) → AreShownUpto m shown → Steady f shown trail → shown v ≡ true → is_assigned v trail ≡ false → length (front shown trail) < shown_count m shown
  front_short f v trail within s shows free =
      let most = front_count f trail within s in
      let some = some_free m v trail shows (within v shows).0 (within v shows).1 free in
      omega arith

-- the shown variables are as many as their list is long
pub shown_count_long : (m n : ℕ) (p : List ℕ) → rises n p ≡ true → list_all (λ v. nat_le v m) p ≡ true → shown_count m (is_among p) ≡ length p
shown_count_long m n [] r low = none m
  where
    none : (k : ℕ) → shown_count k (is_among []) ≡ 0
    none zero = refl
    none (suc k) = let before = none k in omega arith
shown_count_long m n (v ∷ p) r low =
    let (above, rest) = and_parts (nat_lt n v) (rises v p) r in
    let (here, others) = and_parts (nat_le v m) (list_all (λ w. nat_le w m) p) low in
    let before = shown_count_long m v p rest others in
    let one = count_more m (ltb-true n v above) (leb-true v m here) rest in
    omega arith
  where
    -- the first variable is counted once, and no later one is it
    absent : (w : ℕ) (q : List ℕ) → rises w q ≡ true → v ≤ w → is_among q v ≡ false
    absent w [] z k = refl
    absent w (u ∷ q) z k =
        let (now, later) = and_parts (nat_lt w u) (rises u q) z in
        let up = ltb-true w u now in
        or_from (nat_eq v u) (is_among q v) (ne_eqb v u (λ same. omega arith)) (absent u q later (omega arith))

    counts_low : (k : ℕ) → k < v → shown_count k (is_among (v ∷ p)) ≡ shown_count k (is_among p)
    counts_low zero h = refl
    counts_low (suc k) h = rw (ne_eqb (suc k) v (λ same. omega arith)) (ap (λ j. j + cond (is_among p (suc k) && true) 1 0) (counts_low k (omega arith)))

    count_more : (k : ℕ) → n < v → v ≤ k → rises v p ≡ true → shown_count k (is_among (v ∷ p)) ≡ shown_count k (is_among p) + 1
    count_more zero high h z = absurd (omega arith)
    count_more (suc k) high h z =
        elim (cases_eq (suc k) v) [
          | inl same ↦
              let low_counts = counts_low k (omega arith) in
              let gone : is_among p (suc k) ≡ false = ap (is_among p) same ∙ absent v p z (omega arith) in
              rw (eq-eqb (suc k) v same, gone) (omega arith)
          | inr other ↦
              let before = count_more k high (omega arith) z in
              rw (ne_eqb (suc k) v other) (omega arith)
        ]

-- ---- the leaves are paid for

module _ (shown : ℕ → Bool) (n base : ℕ) (p : List ℤ) where
  -- with less below, and no leaf taken back
  pub weighs_less : (count : ℕ → ℕ) (w less now then : ℕ) (trail : List Item) → less + then ≤ w + now → now ≤ then → weighs shown n base count p w now trail ≡ true → weighs shown n base count p less then trail ≡ true
  weighs_less count w less now then [] fewer later h = let most = leb-true (w + now) (weight n p) h in le-leb (less + then) (weight n p) (omega arith)
  weighs_less count w less now then (i ∷ older) fewer later h =
      elim (cases_Bool (is_open shown base i)) [
        | inr shut ↦ rw shut (weighs_less count w less now then older fewer later (rw shut at h))
        | inl opens ↦
            let side : ℕ = weight n (front shown older ++ neg_ℤ i.lit ∷ []) in
            let whole : ℕ = weight n (front shown older) in
            let (pays, rest) = and_parts (nat_le (side + w + now) (whole + count i.level)) (nat_le (count i.level) now && weighs shown n base count p whole (count i.level) older) (rw opens at h) in
            let (rose, before) = and_parts (nat_le (count i.level) now) (weighs shown n base count p whole (count i.level) older) rest in
            let paid = leb-true (side + w + now) (whole + count i.level) pays in
            let up = leb-true (count i.level) now rose in
            rw opens (and_from (nat_le (side + less + then) (whole + count i.level)) (nat_le (count i.level) then && weighs shown n base count p whole (count i.level) older)
            (le-leb (side + less + then) (whole + count i.level) (omega arith))
            (and_from (nat_le (count i.level) then) (weighs shown n base count p whole (count i.level) older) (le-leb (count i.level) then (omega arith)) before))
      ]

  -- an item that opens nothing
  pub weighs_shut : (count : ℕ → ℕ) (w now : ℕ) (i : Item) (older : List Item) → is_open shown base i ≡ false → weighs shown n base count p w now (i ∷ older) ≡ weighs shown n base count p w now older
  weighs_shut count w now i older shut = rw shut refl

  -- counts of levels that aren't open aren't looked at
  pub weighs_recount : (f : List (List ℤ)) (count next : ℕ → ℕ) (w now : ℕ) (trail : List Item) → Steady f shown trail → ((k : ℕ) → base < k → k ≤ depth trail → next k ≡ count k) → weighs shown n base count p w now trail ≡ true → weighs shown n base next p w now trail ≡ true
  weighs_recount f count next w now [] s same h = h
  weighs_recount f count next w now (i ∷ older) s same h =
      let bound = level_bound f shown i older s.0 in
      let rises = bound.1 in
      let low = bound.0 in
      elim (cases_Bool (is_open shown base i)) [
        | inr shut ↦ rw shut (weighs_recount f count next w now older s.1 (λ k high inside. same k high (omega arith)) (rw shut at h))
        | inl opens ↦
            let side : ℕ = weight n (front shown older ++ neg_ℤ i.lit ∷ []) in
            let whole : ℕ = weight n (front shown older) in
            let (pays, rest) = and_parts (nat_le (side + w + now) (whole + count i.level)) (nat_le (count i.level) now && weighs shown n base count p whole (count i.level) older) (rw opens at h) in
            let (rose, before) = and_parts (nat_le (count i.level) now) (weighs shown n base count p whole (count i.level) older) rest in
            let above = ltb-true base i.level (and_parts (is_decided i.kind && seen shown i) (nat_lt base i.level) opens).1 in
            let equal : next i.level ≡ count i.level = same i.level above low in
            rw (opens, equal) (and_from (nat_le (side + w + now) (whole + count i.level)) (nat_le (count i.level) now && weighs shown n base next p whole (count i.level) older) pays
            (and_from (nat_le (count i.level) now) (weighs shown n base next p whole (count i.level) older) rose
            (weighs_recount f count next whole (count i.level) older s.1 (λ k high inside. same k high (omega arith)) before)))
      ]

  -- all that is left open, and the leaves, are no more than the prefix holds
  pub weighs_all : (count : ℕ → ℕ) (w now : ℕ) (trail : List Item) → weighs shown n base count p w now trail ≡ true → weights n (untried shown base trail) + w + now ≤ weight n p
  weighs_all count w now [] h = let most = leb-true (w + now) (weight n p) h in omega arith
  weighs_all count w now (i ∷ older) h =
      elim (cases_Bool (is_open shown base i)) [
        | inr shut ↦ rw shut (weighs_all count w now older (rw shut at h))
        | inl opens ↦
            let side : ℕ = weight n (front shown older ++ neg_ℤ i.lit ∷ []) in
            let whole : ℕ = weight n (front shown older) in
            let (pays, rest) = and_parts (nat_le (side + w + now) (whole + count i.level)) (nat_le (count i.level) now && weighs shown n base count p whole (count i.level) older) (rw opens at h) in
            let (rose, before) = and_parts (nat_le (count i.level) now) (weighs shown n base count p whole (count i.level) older) rest in
            let paid = leb-true (side + w + now) (whole + count i.level) pays in
            let rest_pays = weighs_all count whole (count i.level) older before in
            let split = weights_push n (untried shown base older) (front shown older ++ neg_ℤ i.lit ∷ []) in
            rw opens (omega arith)
      ]

  -- what an open decision tells of what is newer
  pub weighs_at : (count : ℕ → ℕ) (w now : ℕ) (newer : List Item) (d : Item) (older : List Item) → is_open shown base d ≡ true → weighs shown n base count p w now (newer ++ d ∷ older) ≡ true →
      (weight n (front shown older ++ neg_ℤ d.lit ∷ []) + w + now ≤ weight n (front shown older) + count d.level) × (count d.level ≤ now) × (weighs shown n base count p (weight n (front shown older)) (count d.level) older ≡ true)
  weighs_at count w now [] d older opens h =
      let side : ℕ = weight n (front shown older ++ neg_ℤ d.lit ∷ []) in
      let whole : ℕ = weight n (front shown older) in
      let (pays, rest) = and_parts (nat_le (side + w + now) (whole + count d.level)) (nat_le (count d.level) now && weighs shown n base count p whole (count d.level) older) (rw opens at h) in
      let (rose, before) = and_parts (nat_le (count d.level) now) (weighs shown n base count p whole (count d.level) older) rest in
      (leb-true (side + w + now) (whole + count d.level) pays, leb-true (count d.level) now rose, before)
  weighs_at count w now (i ∷ newer) d older opens h =
      elim (cases_Bool (is_open shown base i)) [
        | inr shut ↦ weighs_at count w now newer d older opens (rw shut at h)
        | inl more ↦
            let side : ℕ = weight n (front shown (newer ++ d ∷ older) ++ neg_ℤ i.lit ∷ []) in
            let whole : ℕ = weight n (front shown (newer ++ d ∷ older)) in
            let (pays, rest) = and_parts (nat_le (side + w + now) (whole + count i.level)) (nat_le (count i.level) now && weighs shown n base count p whole (count i.level) (newer ++ d ∷ older)) (rw more at h) in
            let (rose, before) = and_parts (nat_le (count i.level) now) (weighs shown n base count p whole (count i.level) (newer ++ d ∷ older)) rest in
            let paid = leb-true (side + w + now) (whole + count i.level) pays in
            let up = leb-true (count i.level) now rose in
            let there = weighs_at count whole (count i.level) newer d older opens before in
            let pays_there = there.0 in
            let rose_there = there.1 in
            (omega arith, omega arith, there.2)
      ]
