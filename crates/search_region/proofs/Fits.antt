-- The cubes found, the prefixes still to be tried and the present one are apart, and hold every good assignment.
use Rattle.std.proofs.Common.{◌≡◌, ℕ, ◌+◌, ◌<◌, ◌≤◌, Bool, true, false, not, ◌&&◌, ◌||◌, cond, nat_le, nat_lt, ℤ, neg_ℤ, nat_abs, List, [], ◌∷◌, ◌++◌, refl, sym, ap, ap₂, subst, ◌∙◌, ◌⊎◌, inl, inr, arith}
use Rattle.std.specs.List.{list_all}
use Rattle.std.proofs.lemmas.Bool.{and_parts, and_from, and_left, and_right, or_cases, or_parts, both_ways, not-true, false_from_ne_true, cases_Bool, le-leb, leb-true, ltb-true, lt-ltb}
use Rattle.std.proofs.lemmas.List.Folds.{list_all-append}
use Rattle.sat_terms.specs.Literals.{lit_true}
use Rattle.sat_terms.specs.Truth.{sat, holds}
use Rattle.search_region.specs.Trail.{Item, Kind, Assumed, Decided, Flipped, Turned, Implied, depth, upto, seen, agrees, chosen_upto, is_assigned, is_chosen, is_flipped, is_decided, is_implied}
use Rattle.search_region.specs.Steady.{Steady, Fine, FineKind}
use Rattle.search_region.specs.Cubes.{hit, hits, Good, over, Fits}
use Rattle.search_region.specs.Region.{cut, leaves_at, front, root, is_open, untried, left_open, Closed}
use Rattle.search_region.specs.Running.{Running}
use Rattle.search_region.proofs.Agree.{agree_head, agree_tail, agree_more, agree_among, agree_all, levels_within}
use Rattle.search_region.proofs.Heart.{heart, forced_true, flipped_true}
use Rattle.search_region.proofs.Cut.{chosen_seen, or_false}
use Rattle.search_region.proofs.Hits.{hits_push, hits_same, holds_same}
use Rattle.search_region.proofs.Root.{cases_le, root_whole, root_above}
use Rattle.search_region.proofs.Model.{front_true}
use Rattle.sat_terms.proofs.Disjoint.{lit_true-agree, lit_true-neg}

-- the item's literal stands in the prefix that the search is in
abbrev pub in_front : (ℕ → Bool) → Item → Bool
in_front shown i = seen shown i && not (is_implied i.kind)

pub hit_more : (t : ℕ → Bool) (q : List ℤ) (l : ℤ) → hit t (q ++ l ∷ []) ≡ cond (lit_true t l) (hit t q) 0
hit_more t q l =
    rw (list_all-append (lit_true t) q (l ∷ [])) (by_cases (holds t q) (lit_true t l))
  where
    by_cases : (a b : Bool) → cond {A = ℕ} (a && (b && true)) 1 0 ≡ cond b (cond a 1 0) 0
    by_cases true true = refl
    by_cases true false = refl
    by_cases false true = refl
    by_cases false false = refl

pub hit_small : (t : ℕ → Bool) (q : List ℤ) → hit t q ≤ 1
hit_small t q = elim (cases_Bool (holds t q)) [ inl e ↦ rw e (omega arith) | inr e ↦ rw e (omega arith) ]

-- a prefix is the two that a literal splits it into
pub hit_split : (t : ℕ → Bool) (q : List ℤ) (l : ℤ) → 0 < nat_abs l → hit t (q ++ l ∷ []) + hit t (q ++ neg_ℤ l ∷ []) ≡ hit t q
hit_split t q l named =
    rw (hit_more t q l, hit_more t q (neg_ℤ l), lit_true-neg t l named)
    (elim (lit_true t l) as (λ b. cond b (hit t q) 0 + cond (not b) (hit t q) 0 ≡ hit t q) [ true ↦ omega arith | false ↦ omega arith ])

pub hit_less : (t : ℕ → Bool) (q : List ℤ) (l : ℤ) → hit t (q ++ l ∷ []) ≤ hit t q
hit_less t q l = rw (hit_more t q l) (elim (lit_true t l) as (λ b. cond b (hit t q) 0 ≤ hit t q) [ true ↦ omega arith | false ↦ omega arith ])

module _ (shown t : ℕ → Bool) where
  -- what an assignment sees of one more item: its part in the prefixes to be tried
  tried_by : (base : ℕ) (i : Item) (older : List Item) → hits t (untried shown base (i ∷ older)) ≡ hits t (untried shown base older) + cond (is_open shown base i) (hit t (front shown older ++ neg_ℤ i.lit ∷ [])) 0
  tried_by base i older = elim (cases_Bool (is_open shown base i)) [
    | inl e ↦ rw e (hits_push t (untried shown base older) (front shown older ++ neg_ℤ i.lit ∷ []))
    | inr e ↦ rw e (omega arith)
  ]

  -- and in the present one
  front_by : (i : Item) (older : List Item) → hit t (front shown (i ∷ older)) ≡ cond (in_front shown i && not (lit_true t i.lit)) 0 (hit t (front shown older))
  front_by i older = elim (cases_Bool (in_front shown i)) [
    | inl e ↦ rw e (hit_more t (front shown older) i.lit ∙ elim (lit_true t i.lit) as (λ b. cond b (hit t (front shown older)) 0 ≡ cond (not b) 0 (hit t (front shown older))) [ true ↦ refl | false ↦ refl ])
    | inr e ↦ rw e refl
  ]

  -- an open item is in front
  open_in_front : (base : ℕ) (i : Item) → is_open shown base i ≡ true → in_front shown i ≡ true
  open_in_front base i h =
      let (both, high) = and_parts (is_decided i.kind && seen shown i) (nat_lt base i.level) h in
      let (now, shows) = and_parts (is_decided i.kind) (seen shown i) both in
      and_from (seen shown i) (not (is_implied i.kind)) shows (by_kind i.kind now)
    where
      by_kind : (k : Kind) → is_decided k ≡ true → not (is_implied k) ≡ true
      by_kind Assumed e = refl
      by_kind Decided e = refl
      by_kind Flipped e = refl
      by_kind (Turned w) e = refl
      by_kind (Implied w) e = e

  -- one more item opens nothing new
  open_falls : (base : ℕ) (i : Item) (older : List Item) → 0 < nat_abs i.lit → hits t (untried shown base (i ∷ older)) + hit t (front shown (i ∷ older)) ≤ hits t (untried shown base older) + hit t (front shown older)
  open_falls base i older named =
      rw (tried_by base i older) (elim (cases_Bool (is_open shown base i)) [
        | inl e ↦ let split = hit_split t (front shown older) i.lit named in
            rw (e, open_in_front base i e) (omega arith)
        | inr e ↦ rw (e, front_by i older) (elim (in_front shown i && not (lit_true t i.lit)) as (λ b. hits t (untried shown base older) + 0 + cond b 0 (hit t (front shown older)) ≤ hits t (untried shown base older) + hit t (front shown older)) [ true ↦ omega arith | false ↦ omega arith ])
      ])

  -- an open item splits the present prefix
  open_keeps : (base : ℕ) (i : Item) (older : List Item) → 0 < nat_abs i.lit → is_open shown base i ≡ true → hits t (untried shown base (i ∷ older)) + hit t (front shown (i ∷ older)) ≡ hits t (untried shown base older) + hit t (front shown older)
  open_keeps base i older named e =
      let split = hit_split t (front shown older) i.lit named in
      rw (tried_by base i older, e, open_in_front base i e) (omega arith)

  cond_small : (b : Bool) → cond {A = ℕ} b 1 0 ≤ 1
  cond_small true = omega arith
  cond_small false = omega arith

-- an assignment is in at most one of the prefixes left open and what has left
pub open_once : (f : List (List ℤ)) (shown : ℕ → Bool) (base : ℕ) (t : ℕ → Bool) (trail : List Item) → Steady f shown trail → hits t (untried shown base trail) + hit t (front shown trail) + cond {A = ℕ} (cut shown t trail) 1 0 ≤ 1
open_once f shown base t [] s = omega arith
open_once f shown base t (i ∷ older) s =
    let before = open_once f shown base t older s.1 in
    let falls = open_falls shown t base i older s.0.named in
    elim (cases_Bool (leaves_at shown t i older)) [
      | inr stays ↦ let same : cut shown t (i ∷ older) ≡ cut shown t older = ap (λ b. cut shown t older || b) stays ∙ or_false (cut shown t older) in
          rw same (omega arith)
      | inl leaves ↦
          let (flips, away) = and_parts (is_flipped i.kind && seen shown i) (not (lit_true t i.lit) && agrees (seen shown) t older) leaves in
          let (wrong, follows) = and_parts (not (lit_true t i.lit)) (agrees (seen shown) t older) away in
          let (turned, shows) = and_parts (is_flipped i.kind) (seen shown i) flips in
          let in_old : hit t (front shown older) ≡ 1 = rw (front_true f shown t older follows) refl in
          let gone : hit t (front shown (i ∷ older)) ≡ 0 = front_by shown t i older ∙ ap (λ b. cond b 0 (hit t (front shown older))) (and_from (in_front shown i) (not (lit_true t i.lit)) (and_from (seen shown i) (not (is_implied i.kind)) shows (unforced i.kind turned)) wrong) in
          let shut : hits t (untried shown base (i ∷ older)) ≡ hits t (untried shown base older) = tried_by shown t base i older ∙ ap (λ b. hits t (untried shown base older) + cond b (hit t (front shown older ++ neg_ℤ i.lit ∷ [])) 0) (and_left (is_decided i.kind && seen shown i) (nat_lt base i.level) (and_left (is_decided i.kind) (seen shown i) (undecided i.kind turned))) ∙ zero_right (hits t (untried shown base older)) in
          let at_most = cond_small shown t (cut shown t (i ∷ older)) in
          omega arith
    ]
  where
    unforced : (k : Kind) → is_flipped k ≡ true → not (is_implied k) ≡ true
    unforced Assumed e = refl
    unforced Decided e = refl
    unforced Flipped e = refl
    unforced (Turned w) e = refl
    unforced (Implied w) e = e

    undecided : (k : Kind) → is_flipped k ≡ true → is_decided k ≡ false
    undecided Assumed e = refl
    undecided Decided e = sym e
    undecided Flipped e = refl
    undecided (Turned w) e = refl
    undecided (Implied w) e = refl

    zero_right : (n : ℕ) → n + 0 ≡ n
    zero_right n = omega arith

-- nothing is to be tried up to the base
pub untried_low : (shown : ℕ → Bool) (base : ℕ) (trail : List Item) → list_all (upto base) trail ≡ true → untried shown base trail ≡ []
untried_low shown base [] h = refl
untried_low shown base (i ∷ older) h =
    let (now, rest) = and_parts (upto base i) (list_all (upto base) older) h in
    rw (and_right (is_decided i.kind && seen shown i) (nat_lt base i.level) (false_from_ne_true (nat_lt base i.level) λ high. (let low = leb-true i.level base now in let up = ltb-true base i.level high in omega arith))) (untried_low shown base older rest)

-- the prefixes left open lie within the root
pub open_root : (f : List (List ℤ)) (shown : ℕ → Bool) (base : ℕ) (t : ℕ → Bool) (trail : List Item) → Steady f shown trail → hits t (untried shown base trail) + hit t (front shown trail) ≤ hit t (front shown (root base trail))
open_root f shown base t [] s = omega arith
open_root f shown base t (i ∷ older) s =
    elim (cases_le (depth (i ∷ older)) base) [
      | inl low ↦ rw (root_whole base (i ∷ older) low) (let none : hits t (untried shown base (i ∷ older)) ≡ 0 = ap (hits t) (untried_low shown base (i ∷ older) (levels_within f shown base (i ∷ older) s low)) in omega arith)
      | inr high ↦ rw (root_above base i older high) (let before = open_root f shown base t older s.1 in let falls = open_falls shown t base i older s.0.named in omega arith)
    ]

-- who lies in the present prefix agrees with all of it
pub front_agrees : (shown t : ℕ → Bool) (trail : List Item) → holds t (front shown trail) ≡ true → agrees (in_front shown) t trail ≡ true
front_agrees shown t [] h = refl
front_agrees shown t (i ∷ older) h =
    elim (cases_Bool (in_front shown i)) [
      | inl e ↦
          let (before, now) = and_parts (holds t (front shown older)) (holds t (i.lit ∷ [])) (sym (list_all-append (lit_true t) (front shown older) (i.lit ∷ [])) ∙ subst (λ b. holds t (cond b (front shown older ++ i.lit ∷ []) (front shown older)) ≡ true) e h) in
          agree_more (in_front shown) t i older (λ c. (and_parts (lit_true t i.lit) true now).0) (front_agrees shown t older before)
      | inr e ↦ agree_more (in_front shown) t i older (λ c. absurd (both_ways (in_front shown i) e c))
          (front_agrees shown t older (subst (λ b. holds t (cond b (front shown older ++ i.lit ∷ []) (front shown older)) ≡ true) e h))
    ]

module _ (f : List (List ℤ)) (shown : ℕ → Bool) where
  -- a solution in the present prefix that hasn't left agrees with all, while some shown variable is unassigned
  pub agree_front : (v : ℕ) (pick : Item → Bool) (t : ℕ → Bool) (trail : List Item) → Steady f shown trail → shown v ≡ true → is_assigned v trail ≡ false → sat f t ≡ true → holds t (front shown trail) ≡ true → cut shown t trail ≡ false → agrees pick t trail ≡ true
  agree_front v pick t trail s shows unset m h stays =
      agree_all f shown (depth trail) pick t trail s (omega arith)
      (heart f shown (depth trail) t trail s m
      (agree_among (λ i. not (is_chosen i.kind) || seen shown i) (in_front shown) (chosen_upto (depth trail))
      (λ i e c. let now = (and_parts (is_chosen i.kind) (nat_le i.level (depth trail)) c).0 in
      elim (or_cases (not (is_chosen i.kind)) (seen shown i) e) [
        | inl n ↦ absurd (both_ways (is_chosen i.kind) (not-true (is_chosen i.kind) n) now)
        | inr over ↦ and_from (seen shown i) (not (is_implied i.kind)) over (unforced i.kind now)
      ])
      t trail (chosen_seen f shown v shows trail s unset) (front_agrees shown t trail h))
      stays)
    where
      unforced : (k : Kind) → is_chosen k ≡ true → not (is_implied k) ≡ true
      unforced Assumed e = refl
      unforced Decided e = refl
      unforced Flipped e = refl
      unforced (Turned w) e = refl
      unforced (Implied w) e = e

  -- a literal of the present prefix is true, or opens a prefix
  front_step : (base : ℕ) (t : ℕ → Bool) (i : Item) (older : List Item) → Fine f shown i older → Steady f shown older → sat f t ≡ true → agrees (chosen_upto base) t (i ∷ older) ≡ true → cut shown t older ≡ false → leaves_at shown t i older ≡ false → seen shown i ≡ true → holds t (front shown older) ≡ true → (lit_true t i.lit ≡ true) ⊎ (is_open shown base i ≡ true)
  front_step base t i older fine s m a stays here shows h = by_kind i.kind refl fine.kinds
    where
      full : (pick : Item → Bool) → agrees pick t older ≡ true
      full pick = agree_front (nat_abs i.lit) pick t older s shows fine.fresh m h stays

      by_kind : (c : Kind) → i.kind ≡ c → FineKind f shown c i older → (lit_true t i.lit ≡ true) ⊎ (is_open shown base i ≡ true)
      by_kind Assumed e k = inl (agree_head (chosen_upto base) t i older a (and_from (is_chosen i.kind) (nat_le i.level base) (ap is_chosen e) (let low = k.lowest in le-leb i.level base (omega arith))))
      by_kind Decided e k = elim (cases_le i.level base) [
        | inl low ↦ inl (agree_head (chosen_upto base) t i older a (and_from (is_chosen i.kind) (nat_le i.level base) (ap is_chosen e) (le-leb i.level base low)))
        | inr high ↦ inr (and_from (is_decided i.kind && seen shown i) (nat_lt base i.level) (and_from (is_decided i.kind) (seen shown i) (ap is_decided e) shows) (lt-ltb base i.level high))
      ]
      by_kind Flipped e k = inl (flipped_true f shown t i older e k s m (full (upto (depth older))) here)
      by_kind (Turned w) e k = inl (forced_true f shown (depth older) w t i older k s k.bound m (full (upto (depth older))))
      by_kind (Implied w) e k = inl (forced_true f shown (depth older) w t i older k s k.bound m (full (upto (depth older))))

  -- a solution that follows the choices of the base and hasn't left is in some prefix left open
  pub open_cover : (base : ℕ) (t : ℕ → Bool) (trail : List Item) → Steady f shown trail → sat f t ≡ true → agrees (chosen_upto base) t trail ≡ true → cut shown t trail ≡ false → 1 ≤ hits t (untried shown base trail) + hit t (front shown trail)
  open_cover base t [] s m a stays = omega arith
  open_cover base t (i ∷ older) s m a stays =
      let (stays_old, here) = or_parts (cut shown t older) (leaves_at shown t i older) stays in
      let before = open_cover base t older s.1 m (agree_tail (chosen_upto base) t i older a) stays_old in
      let tried = tried_by shown t base i older in
      let fronted = front_by shown t i older in
      elim (cases_Bool (in_front shown i && not (lit_true t i.lit))) [
        | inr e ↦ let same : hit t (front shown (i ∷ older)) ≡ hit t (front shown older) = fronted ∙ ap (λ b. cond b 0 (hit t (front shown older))) e in omega arith
        | inl e ↦
            let (fronts, wrong) = and_parts (in_front shown i) (not (lit_true t i.lit)) e in
            let shows = (and_parts (seen shown i) (not (is_implied i.kind)) fronts).0 in
            elim (cases_Bool (holds t (front shown older))) [
              | inr out ↦ let none : hit t (front shown older) ≡ 0 = ap (λ b. cond b 1 0) out in omega arith
              | inl within ↦ elim (front_step base t i older s.0 s.1 m a stays_old here shows within) [
                | inl now ↦ absurd (both_ways (lit_true t i.lit) (not-true (lit_true t i.lit) wrong) now)
                | inr opens ↦ let keeps = open_keeps shown t base i older s.0.named opens in omega arith
              ]
            ]
      ]

-- where an assignment leaves depends on the shown variables alone
pub agree_seen : (shown s t : ℕ → Bool) → ((v : ℕ) → shown v ≡ true → s v ≡ t v) → (trail : List Item) → agrees (seen shown) s trail ≡ agrees (seen shown) t trail
agree_seen shown s t e [] = refl
agree_seen shown s t e (i ∷ older) = ap₂ (λ a b. a && b) (here (shown (nat_abs i.lit)) refl) (agree_seen shown s t e older)
  where
    here : (b : Bool) → shown (nat_abs i.lit) ≡ b → (not (seen shown i) || lit_true s i.lit) ≡ (not (seen shown i) || lit_true t i.lit)
    here true h = ap (λ b. not (seen shown i) || b) (lit_true-agree s t i.lit (e (nat_abs i.lit) h))
    here false h = rw h refl

pub cut_same : (shown s t : ℕ → Bool) → ((v : ℕ) → shown v ≡ true → s v ≡ t v) → (trail : List Item) → cut shown s trail ≡ cut shown t trail
cut_same shown s t e [] = refl
cut_same shown s t e (i ∷ older) = ap₂ (λ a b. a || b) (cut_same shown s t e older) (here (shown (nat_abs i.lit)) refl)
  where
    no_matter : (a x y : Bool) → ((a && false) && x) ≡ ((a && false) && y)
    no_matter true x y = refl
    no_matter false x y = refl

    here : (b : Bool) → shown (nat_abs i.lit) ≡ b → leaves_at shown s i older ≡ leaves_at shown t i older
    here true h = ap₂ (λ a b. (is_flipped i.kind && seen shown i) && (not a && b)) (lit_true-agree s t i.lit (e (nat_abs i.lit) h)) (agree_seen shown s t e older)
    here false h = rw h (no_matter (is_flipped i.kind) (not (lit_true s i.lit) && agrees (seen shown) s older) (not (lit_true t i.lit) && agrees (seen shown) t older))

-- while a search runs, what it found and what it left open fit the prefix
pub running_fits : (f : List (List ℤ)) (shown : ℕ → Bool) (base : ℕ) (p : List ℤ) (trail : List Item) (found : List (List ℤ)) → Running f shown base p trail found → Fits f shown p found (left_open shown base trail)
running_fits f shown base p trail found r = record {
  bound = bound;
  good = r.region.good;
  cover = cover;
}
  where
    both : (t : ℕ → Bool) → hits t (left_open shown base trail) ≡ hits t (untried shown base trail) + hit t (front shown trail)
    both t = hits_push t (untried shown base trail) (front shown trail)

    within_root : (t : ℕ → Bool) → hit t (front shown (root base trail)) ≤ hit t p
    within_root t = elim (cases_Bool (holds t (front shown (root base trail)))) [
      | inl held ↦ rw (held, r.region.below t held) (omega arith)
      | inr free ↦ rw free (omega arith)
    ]

    found_there : (t : ℕ → Bool) → 0 < hits t found → (hits t found ≡ 1) × (cut shown t trail ≡ true) × (holds t p ≡ true)
    found_there t h =
        let g : Good f shown t = r.region.good t h in
        let same = hits_same shown g.model t g.same found r.region.found_over in
        let exact = r.region.exact g.model g.meets in
        elim (cases_Bool (holds g.model p && cut shown g.model trail)) [
          | inl e ↦
              let (held, gone) = and_parts (holds g.model p) (cut shown g.model trail) e in
              let one : hits g.model found ≡ 1 = exact ∙ ap (λ b. cond b 1 0) e in
              (omega arith, sym (cut_same shown g.model t g.same trail) ∙ gone, sym (holds_same shown g.model t g.same p r.region.prefix_over) ∙ held)
          | inr e ↦ let none : hits g.model found ≡ 0 = exact ∙ ap (λ b. cond b 1 0) e in absurd (omega arith)
        ]

    bound : (t : ℕ → Bool) → hits t found + hits t (left_open shown base trail) ≤ hit t p
    bound t =
        let split = both t in
        let once = open_once f shown base t trail r.steady in
        let low = open_root f shown base t trail r.steady in
        let inside = within_root t in
        elim (cases_le (hits t found) 0) [
          | inl none ↦ omega arith
          | inr some ↦
              let there = found_there t some in
              let one = there.0 in
              let left : cond {A = ℕ} (cut shown t trail) 1 0 ≡ 1 = ap (λ b. cond b 1 0) there.1 in
              let held : hit t p ≡ 1 = ap (λ b. cond b 1 0) there.2 in
              omega arith
        ]

    cover : (t : ℕ → Bool) → sat f t ≡ true → hit t p ≤ hits t found + hits t (left_open shown base trail)
    cover t m =
        let split = both t in
        elim (cases_Bool (holds t p)) [
          | inr free ↦ let none : hit t p ≡ 0 = ap (λ b. cond b 1 0) free in omega arith
          | inl held ↦
              let one : hit t p ≡ 1 = ap (λ b. cond b 1 0) held in
              elim (cases_Bool (cut shown t trail)) [
                | inl gone ↦ let here : hits t found ≡ 1 = r.region.exact t m ∙ ap₂ (λ a b. cond (a && b) 1 0) held gone in omega arith
                | inr stays ↦ let some = open_cover f shown base t trail r.steady m (r.region.above t held) stays in omega arith
              ]
        ]

-- and once it is closed, what it found does
pub closed_fits : (f : List (List ℤ)) (shown : ℕ → Bool) (p : List ℤ) (found : List (List ℤ)) → Closed f shown p found → Fits f shown p found []
closed_fits f shown p found h = record {
  bound = bound;
  good = h.good;
  cover = λ t m. let exact = h.exact t m in omega arith;
}
  where
    bound : (t : ℕ → Bool) → hits t found + 0 ≤ hit t p
    bound t = elim (cases_le (hits t found) 0) [
      | inl none ↦ omega arith
      | inr some ↦
          let g : Good f shown t = h.good t some in
          let same = hits_same shown g.model t g.same found h.found_over in
          let exact = h.exact g.model g.meets in
          let alike : hit g.model p ≡ hit t p = ap (λ b. cond b 1 0) (holds_same shown g.model t g.same p h.prefix_over) in
          omega arith
    ]
