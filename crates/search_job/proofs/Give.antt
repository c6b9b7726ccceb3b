-- Giving away the lowest untried branch.
use Rattle.std.proofs.Common.{◌≡◌, ℕ, suc, ◌+◌, ◌<◌, ◌≤◌, Bool, true, not, ◌&&◌, ◌||◌, nat_le, nat_lt, ℤ, neg_ℤ, nat_abs, List, [], ◌∷◌, ◌++◌, filter, refl, sym, ap, subst, ◌∙◌, inl, inr, arith}
use Rattle.std.specs.List.{list_all, AllByRecursion}
use Rattle.std.proofs.lemmas.Bool.{and_parts, and_from, and_left, or_cases, both_ways, cases_Bool, not-true, not_from_true, lt-ltb}
use Rattle.std.proofs.lemmas.List.Folds.{list_all-append}
use Rattle.sat_terms.specs.Literals.{lit_true}
use Rattle.sat_terms.specs.Truth.{holds}
use Rattle.sat_terms.proofs.Disjoint.{lit_true-neg}
use Rattle.search_region.specs.Trail.{Item, Kind, Assumed, Decided, Flipped, Turned, Implied, depth, upto, seen, agrees, chosen_upto, is_chosen, is_decided, is_implied}
use Rattle.search_region.specs.Steady.{Steady, Fine, FineKind}
use Rattle.search_region.specs.Cubes.{hit, hits, Fits}
use Rattle.search_region.specs.Region.{Region, front, root, is_open, untried, left_open}
use Rattle.search_region.specs.Running.{Running}
use Rattle.search_region.proofs.Agree.{agree_head, agree_among, levels_within}
use Rattle.search_region.proofs.Back.{depth_rises, steady_older}
use Rattle.search_region.proofs.Flip.{fine_decided, chosen_newer}
use Rattle.search_region.proofs.Cut.{chosen_seen}
use Rattle.search_region.proofs.Hits.{hits_push}
use Rattle.search_region.proofs.Fits.{running_fits, front_agrees, in_front, open_root, untried_low, hit_small}
use Rattle.search_job.specs.Weights.{weight, weighs}
use Rattle.search_job.specs.Working.{Working}
use Rattle.search_job.specs.Give.{next_count, kept_prefix, Tells, Gives}
use Rattle.search_job.proofs.Weights.{weighs_at, weighs_all}
use Rattle.search_job.proofs.Stuck.{all_stuck_filter}
use Rattle.search_job.proofs.Kept.{root_more, root_reaches, over_front, over_filter, Parts, parts_of, hits_parted, hits_within, hits_apart}
use Rattle.search_job.proofs.Counted.{next_weight, next_weight_low, next_count_low, next_count_few, next_weight_kept, weighs_since}

module _ (f : List (List ℤ)) (shown : ℕ → Bool) (base : ℕ) (newer : List Item) (d : Item) (older : List Item) (s : Steady f shown (newer ++ d ∷ older)) (decided : d.kind ≡ Decided) (next : d.level ≡ suc base) (shows : seen shown d ≡ true) where
  fine : Fine f shown d older
  fine = (steady_older f shown newer (d ∷ older) s).0

  old : Steady f shown older
  old = (steady_older f shown newer (d ∷ older) s).1

  opens : d.level ≡ suc (depth older)
  opens = (fine_decided f shown d older fine decided).opens

  pub deep : depth (d ∷ older) ≡ suc base
  deep = rw decided next

  abbrev pub given : List ℤ
  given = front shown older ++ neg_ℤ d.lit ∷ []

  abbrev pub kept : List ℤ
  kept = kept_prefix shown base (newer ++ d ∷ older)

  pub opened : is_open shown base d ≡ true
  opened = and_from (is_decided d.kind && seen shown d) (nat_lt base d.level) (and_from (is_decided d.kind) (seen shown d) (rw decided refl) shows) (lt-ltb base d.level (let n = next in omega arith))

  -- ---- what is left open, from the base on and from one level above it

  -- newer items open alike from both
  pub open_same : (i : Item) (rest : List Item) → Fine f shown i rest → suc base ≤ depth rest → is_open shown (suc base) i ≡ is_open shown base i
  open_same i rest h high = elim (cases_Bool (is_decided i.kind)) [
    | inr flat ↦ and_left (is_decided i.kind && seen shown i) (nat_lt (suc base) i.level) (and_left (is_decided i.kind) (seen shown i) flat)
        ∙ sym (and_left (is_decided i.kind && seen shown i) (nat_lt base i.level) (and_left (is_decided i.kind) (seen shown i) flat))
    | inl now ↦ ap (λ b. (is_decided i.kind && seen shown i) && b) (lt-ltb (suc base) i.level (by_kind i.kind refl h.kinds now) ∙ sym (lt-ltb base i.level (let up = by_kind i.kind refl h.kinds now in omega arith)))
  ]
    where
      by_kind : (c : Kind) → i.kind ≡ c → FineKind f shown c i rest → is_decided i.kind ≡ true → suc base < i.level
      by_kind Assumed c k now = absurd (both_ways (is_decided i.kind) (ap is_decided c) now)
      by_kind Decided c k now = let opens_here = k.opens in omega arith
      by_kind Flipped c k now = absurd (both_ways (is_decided i.kind) (ap is_decided c) now)
      by_kind (Turned w) c k now = absurd (both_ways (is_decided i.kind) (ap is_decided c) now)
      by_kind (Implied w) c k now = absurd (both_ways (is_decided i.kind) (ap is_decided c) now)

  -- the lowest untried prefix is that of d, and what follows it is what is untried above d's level
  pub untried_first : untried shown base (newer ++ d ∷ older) ≡ given ∷ untried shown (suc base) (newer ++ d ∷ older)
  untried_first = along newer s
    where
      low : list_all (upto base) older ≡ true
      low = levels_within f shown base older old (let on = opens in let at = next in omega arith)

      low_d : list_all (upto (suc base)) (d ∷ older) ≡ true
      low_d = levels_within f shown (suc base) (d ∷ older) (steady_older f shown newer (d ∷ older) s) (let at = deep in omega arith)

      along : (part : List Item) → Steady f shown (part ++ d ∷ older) → untried shown base (part ++ d ∷ older) ≡ given ∷ untried shown (suc base) (part ++ d ∷ older)
      along [] z = rw (opened, untried_low shown base older low, untried_low shown (suc base) (d ∷ older) low_d) refl
      along (i ∷ part) z =
          let rises = depth_rises f shown part (d ∷ older) z.1 in
          let alike = open_same i (part ++ d ∷ older) z.0 (let at = deep in omega arith) in
          elim (cases_Bool (is_open shown base i)) [
            | inl now ↦ rw (alike ∙ now, now) (ap (λ x. x ++ (front shown (part ++ d ∷ older) ++ neg_ℤ i.lit ∷ []) ∷ []) (along part z.1))
            | inr shut ↦ rw (alike ∙ shut, shut) (along part z.1)
          ]

  -- ---- the kept prefix

  -- who is in it agrees with d and what stands before d
  kept_front : (t : ℕ → Bool) → holds t kept ≡ true → holds t (front shown (d ∷ older)) ≡ true
  kept_front t h = root_reaches shown (suc base) t newer (d ∷ older) (let at = deep in omega arith) h

  never_given : (t : ℕ → Bool) → holds t kept ≡ true → holds t given ≡ true → ⊥
  never_given t h g =
      let now : lit_true t d.lit ≡ true = agree_head (in_front shown) t d older (front_agrees shown t (d ∷ older) (kept_front t h)) (and_from (seen shown d) (not (is_implied d.kind)) shows (rw decided refl)) in
      let (before, last) = and_parts (holds t (front shown older)) (lit_true t (neg_ℤ d.lit) && true) (sym (list_all-append (lit_true t) (front shown older) (neg_ℤ d.lit ∷ [])) ∙ g) in
      both_ways (lit_true t (neg_ℤ d.lit)) (lit_true-neg t d.lit fine.named ∙ not_from_true (lit_true t d.lit) now) (and_parts (lit_true t (neg_ℤ d.lit)) true last).0

  -- the choices up to d's level are shown, and so in the kept prefix
  kept_chosen : (t : ℕ → Bool) → holds t kept ≡ true → agrees (chosen_upto (suc base)) t (newer ++ d ∷ older) ≡ true
  kept_chosen t h = subst (λ k. agrees (chosen_upto k) t (newer ++ d ∷ older) ≡ true) next
      (chosen_newer f shown t newer d older s decided opens
      (agree_among (λ i. not (is_chosen i.kind) || seen shown i) (in_front shown) (chosen_upto d.level) (λ i e c. fronted i (and_parts (is_chosen i.kind) (nat_le i.level d.level) c).0 e) t (d ∷ older)
      (and_from (not (is_chosen d.kind) || seen shown d) (list_all (λ i. not (is_chosen i.kind) || seen shown i) older) (rw (decided, shows) refl) (chosen_seen f shown (nat_abs d.lit) shows older old fine.fresh))
      (front_agrees shown t (d ∷ older) (kept_front t h))))
    where
      unforced : (k : Kind) → is_chosen k ≡ true → not (is_implied k) ≡ true
      unforced Assumed e = refl
      unforced Decided e = refl
      unforced Flipped e = refl
      unforced (Turned w) e = refl
      unforced (Implied w) e = e

      fronted : (i : Item) → is_chosen i.kind ≡ true → (not (is_chosen i.kind) || seen shown i) ≡ true → in_front shown i ≡ true
      fronted i chosen e = elim (or_cases (not (is_chosen i.kind)) (seen shown i) e) [
        | inl n ↦ absurd (both_ways (is_chosen i.kind) (not-true (is_chosen i.kind) n) chosen)
        | inr over_here ↦ and_from (seen shown i) (not (is_implied i.kind)) over_here (unforced i.kind chosen)
      ]

  -- ---- what goes fits, and what stays goes on

  module _ (q : List ℤ) (found : List (List ℤ)) (inside : List ℤ → Bool) (r : Running f shown base q (newer ++ d ∷ older) found) (parts : AllByRecursion (Parts inside kept) found) where
    abbrev pub out : List (List ℤ)
    out = filter (λ c. not (inside c)) found

    abbrev pub stay : List (List ℤ)
    stay = filter inside found

    kept_within : (t : ℕ → Bool) → holds t kept ≡ true → holds t q ≡ true
    kept_within t h = r.region.below t (root_more shown t base (suc base) (omega arith) (newer ++ d ∷ older) h)

    all_open : (t : ℕ → Bool) → hits t (left_open shown base (newer ++ d ∷ older)) ≡ hit t given + hits t (untried shown (suc base) (newer ++ d ∷ older)) + hit t (front shown (newer ++ d ∷ older))
    all_open t = hits_push t (untried shown base (newer ++ d ∷ older)) (front shown (newer ++ d ∷ older)) ∙ ap (λ x. hits t x + hit t (front shown (newer ++ d ∷ older))) untried_first

    pub give_fits : Fits f shown q out (given ∷ kept ∷ [])
    give_fits = record {
      bound = λ t. (
          let split = hits_parted inside kept t found in
          let was = (running_fits f shown base q (newer ++ d ∷ older) found r).bound t in
          let left = all_open t in
          elim (cases_Bool (holds t kept)) [
            | inl held ↦
                let none = hits_apart inside kept t found parts held in
                let one : hit t kept ≡ 1 = rw held refl in
                let within : hit t q ≡ 1 = rw (kept_within t held) refl in
                let never : hit t given ≡ 0 = elim (cases_Bool (holds t given)) [ inl both ↦ absurd (never_given t held both) | inr apart ↦ rw apart refl ] in
                omega arith
            | inr free ↦ let none : hit t kept ≡ 0 = rw free refl in omega arith
          ]
          );
      good = λ t some. r.region.good t (let split = hits_parted inside kept t found in omega arith);
      cover = λ t model. (
          let split = hits_parted inside kept t found in
          let was = (running_fits f shown base q (newer ++ d ∷ older) found r).cover t model in
          let left = all_open t in
          let below = open_root f shown (suc base) t (newer ++ d ∷ older) s in
          let small = hit_small t q in
          elim (cases_Bool (holds t kept)) [
            | inl held ↦ let one : hit t kept ≡ 1 = rw held refl in omega arith
            | inr free ↦
                let none = hits_within inside kept t found parts free in
                let gone : hit t kept ≡ 0 = rw free refl in
                omega arith
          ]
          );
    }

    pub give_region : Region f shown (suc base) kept (newer ++ d ∷ older) stay
    give_region = record {
      based = (let rises = depth_rises f shown newer (d ∷ older) s in let at = deep in omega arith);
      found_over = over_filter shown inside found r.region.found_over;
      prefix_over = over_front shown (root (suc base) (newer ++ d ∷ older));
      good = λ t some. r.region.good t (let split = hits_parted inside kept t found in omega arith);
      exact = λ t model. (
          let split = hits_parted inside kept t found in
          let was = r.region.exact t model in
          elim (cases_Bool (holds t kept)) [
            | inl held ↦
                let none = hits_apart inside kept t found parts held in
                let all : hits t stay ≡ hits t found = omega arith in
                rw held (all ∙ was ∙ rw (kept_within t held) refl)
            | inr free ↦ rw free (hits_within inside kept t found parts free)
          ]
          );
      below = λ t h. h;
      above = kept_chosen;
    }

    pub give_runs : Running f shown (suc base) kept (newer ++ d ∷ older) stay
    give_runs = record { steady = s; region = give_region }

-- ---- with weights

-- what weighs below an open decision, and the leaves when the next one was made, are paid for by its other side
weighs_given : (f : List (List ℤ)) (shown : ℕ → Bool) (n base : ℕ) (count : ℕ → ℕ) (p : List ℤ) (newer : List Item) (d : Item) (older : List Item) (s : Steady f shown (newer ++ d ∷ older)) (decided : d.kind ≡ Decided) (next : d.level ≡ suc base) (shows : seen shown d ≡ true) (w now : ℕ) → weighs shown n base count p w now (newer ++ d ∷ older) ≡ true →
    weight n (front shown older ++ neg_ℤ d.lit ∷ []) + next_weight n shown (suc base) w (newer ++ d ∷ older) + next_count shown (suc base) count now (newer ++ d ∷ older) ≤ weight n p
weighs_given f shown n base count p [] d older s decided next shows w now h =
    let low : depth (d ∷ older) ≤ suc base = (let at = deep f shown base [] d older s decided next shows in omega arith) in
    let same = next_weight_low f shown (suc base) n w (d ∷ older) s low in
    let alike = next_count_low f shown (suc base) count now (d ∷ older) s low in
    let there = weighs_at shown n base p count w now [] d older (opened f shown base [] d older s decided next shows) h in
    let pays = there.0 in
    let all = weighs_all shown n base p count (weight n (front shown older)) (count d.level) older there.2 in
    omega arith
weighs_given f shown n base count p (i ∷ newer) d older s decided next shows w now h =
    let rises = depth_rises f shown newer (d ∷ older) s.1 in
    let alike = open_same f shown base newer d older s.1 decided next shows i (newer ++ d ∷ older) s.0 (let at = deep f shown base newer d older s.1 decided next shows in omega arith) in
    elim (cases_Bool (is_open shown base i)) [
      | inr shut ↦ rw (alike ∙ shut) (weighs_given f shown n base count p newer d older s.1 decided next shows w now (rw shut at h))
      | inl opens ↦
          let whole : ℕ = weight n (front shown (newer ++ d ∷ older)) in
          let there = weighs_at shown n base p count w now [] i (newer ++ d ∷ older) opens h in
          rw (alike ∙ opens) (weighs_given f shown n base count p newer d older s.1 decided next shows whole (count i.level) there.2)
    ]

-- the give: the lowest untried branch goes, with the cubes that are not within the kept prefix
pub give_works : (f : List (List ℤ)) (shown : ℕ → Bool) (n base : ℕ) (count : ℕ → ℕ) (q : List ℤ) (newer : List Item) (d : Item) (older : List Item) (found : List (List ℤ)) (leaves : ℕ) (inside : List ℤ → Bool) → Working f shown n base count q (newer ++ d ∷ older) found leaves → d.kind ≡ Decided → d.level ≡ suc base → seen shown d ≡ true → AllByRecursion (Tells inside (kept_prefix shown base (newer ++ d ∷ older))) found →
    Gives f shown n base count q (newer ++ d ∷ older) found leaves inside (front shown older ++ neg_ℤ d.lit ∷ []) (next_count shown (suc base) count leaves (newer ++ d ∷ older))
give_works f shown n base count q newer d older found leaves inside w decided next shows tells = record {
  first = untried_first f shown base newer d older s decided next shows;
  few = few;
  fits = record {
    fits = give_fits f shown base newer d older s decided next shows q found inside w.running parts;
    weighs = (
        let paid = weighs_given f shown n base count q newer d older s decided next shows (weight n (front shown (newer ++ d ∷ older))) leaves w.weights in
        let same = next_weight_kept f shown n (suc base) (newer ++ d ∷ older) s in
        omega arith
        );
  };
  works = record {
    running = give_runs f shown base newer d older s decided next shows q found inside w.running parts;
    stuck = all_stuck_filter shown (newer ++ d ∷ older) inside found w.stuck;
    weights = weighs_since shown n base q (suc base) (kept_prefix shown base (newer ++ d ∷ older)) count (weight n (front shown (newer ++ d ∷ older))) leaves (next_count shown (suc base) count leaves (newer ++ d ∷ older)) (newer ++ d ∷ older) (omega arith) refl (let same = next_weight_kept f shown n (suc base) (newer ++ d ∷ older) s in omega arith) w.weights;
  };
}
  where
    s : Steady f shown (newer ++ d ∷ older)
    s = w.running.steady

    few : next_count shown (suc base) count leaves (newer ++ d ∷ older) ≤ leaves
    few = next_count_few shown n base q (suc base) count (weight n (front shown (newer ++ d ∷ older))) leaves (newer ++ d ∷ older) (omega arith) w.weights

    parts : AllByRecursion (Parts inside (kept_prefix shown base (newer ++ d ∷ older))) found
    parts = parts_of f shown (suc base) inside (newer ++ d ∷ older) found w.stuck tells
