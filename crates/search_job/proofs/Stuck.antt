-- A cube that was left behind at one item stays so in each move.
use Rattle.std.proofs.Common.{◌≡◌, ℕ, ◌<◌, Bool, true, false, not, ◌&&◌, ℤ, nat_abs, List, [], ◌∷◌, ◌++◌, filter, refl, sym, ap₂, subst, ◌∙◌, ◌⊎◌, inl, inr, arith}
use Rattle.std.specs.List.{list_all}
use Rattle.std.proofs.lemmas.Bool.{and_parts, and_left, and_right, or_cases, or_from, or_left, or_right, both_ways, cases_Bool, not_from_true}
use Rattle.sat_terms.specs.Literals.{lit_true}
use Rattle.sat_terms.specs.Truth.{sat, holds}
use Rattle.sat_terms.proofs.Disjoint.{lit_true-agree}
use Rattle.search_region.specs.Trail.{Item, Decided, depth, back, turn_with, seen, agrees, is_flipped}
use Rattle.search_region.specs.Steady.{Steady}
use Rattle.search_region.specs.Cubes.{hit, hits, Good, over}
use Rattle.search_region.specs.Region.{cut, leaves_at}
use Rattle.search_region.proofs.Agree.{agree_head, agree_tail}
use Rattle.search_region.proofs.Flip.{agree_older}
use Rattle.search_region.proofs.Cut.{cut_kept, split}
use Rattle.search_region.proofs.Hits.{holds_same}
use Rattle.search_region.proofs.Fits.{agree_seen}
use Rattle.search_job.specs.Stuck.{Stuck, AllStuck}

module _ (shown : ℕ → Bool) where
  -- who leaves at an item agrees with the older shown ones
  pub leaves_agrees : (t : ℕ → Bool) (i : Item) (older : List Item) → leaves_at shown t i older ≡ true → agrees (seen shown) t older ≡ true
  leaves_agrees t i older h = (and_parts (not (lit_true t i.lit)) (agrees (seen shown) t older) (and_parts (is_flipped i.kind && seen shown i) (not (lit_true t i.lit) && agrees (seen shown) t older) h).1).1

  -- where an assignment leaves depends on the shown variables alone
  pub leaves_same : (s t : ℕ → Bool) → ((v : ℕ) → shown v ≡ true → s v ≡ t v) → (i : Item) (older : List Item) → leaves_at shown s i older ≡ leaves_at shown t i older
  leaves_same s t e i older = here (seen shown i) refl
    where
      no_matter : (a x y : Bool) → ((a && false) && x) ≡ ((a && false) && y)
      no_matter true x y = refl
      no_matter false x y = refl

      here : (b : Bool) → seen shown i ≡ b → leaves_at shown s i older ≡ leaves_at shown t i older
      here true h = ap₂ (λ a b. (is_flipped i.kind && seen shown i) && (not a && b)) (lit_true-agree s t i.lit (e (nat_abs i.lit) h)) (agree_seen shown s t e older)
      here false h = rw h (no_matter (is_flipped i.kind) (not (lit_true s i.lit) && agrees (seen shown) s older) (not (lit_true t i.lit) && agrees (seen shown) t older))

  -- who agrees with the shown items hasn't left
  pub seen_uncut : (t : ℕ → Bool) (trail : List Item) → agrees (seen shown) t trail ≡ true → cut shown t trail ≡ false
  seen_uncut t [] a = refl
  seen_uncut t (i ∷ older) a =
      or_from (cut shown t older) (leaves_at shown t i older) (seen_uncut t older (agree_tail (seen shown) t i older a))
      (elim (cases_Bool (seen shown i)) [
        | inl shows ↦ and_right (is_flipped i.kind && seen shown i) (not (lit_true t i.lit) && agrees (seen shown) t older)
            (and_left (not (lit_true t i.lit)) (agrees (seen shown) t older) (not_from_true (lit_true t i.lit) (agree_head (seen shown) t i older a shows)))
        | inr hides ↦ and_left (is_flipped i.kind && seen shown i) (not (lit_true t i.lit) && agrees (seen shown) t older) (and_right (is_flipped i.kind) (seen shown i) hides)
      ])

  pub stuck_more : (newer older : List Item) (c : List ℤ) → Stuck shown older c → Stuck shown (newer ++ older) c
  stuck_more [] older c h = h
  stuck_more (i ∷ newer) older c h = inl (stuck_more newer older c h)

  pub all_stuck_more : (newer older : List Item) (cubes : List (List ℤ)) → AllStuck shown older cubes → AllStuck shown (newer ++ older) cubes
  all_stuck_more newer older [] h = tt
  all_stuck_more newer older (c ∷ cubes) h = (stuck_more newer older c h.0, all_stuck_more newer older cubes h.1)

  pub all_stuck_push : (trail : List Item) (cubes : List (List ℤ)) (c : List ℤ) → AllStuck shown trail cubes → Stuck shown trail c → AllStuck shown trail (cubes ++ c ∷ [])
  all_stuck_push trail [] c h g = (g, tt)
  all_stuck_push trail (d ∷ cubes) c h g = (h.0, all_stuck_push trail cubes c h.1 g)

  pub all_stuck_filter : (trail : List Item) (keep : List ℤ → Bool) (cubes : List (List ℤ)) → AllStuck shown trail cubes → AllStuck shown trail (filter keep cubes)
  all_stuck_filter trail keep [] h = tt
  all_stuck_filter trail keep (c ∷ cubes) h = elim (cases_Bool (keep c)) [
    | inl stays ↦ rw stays (h.0, all_stuck_filter trail keep cubes h.1)
    | inr goes ↦ rw goes (all_stuck_filter trail keep cubes h.1)
  ]

module _ (f : List (List ℤ)) (shown : ℕ → Bool) (newer : List Item) (d e : Item) (older : List Item) (s : Steady f shown (newer ++ d ∷ older)) (decided : d.kind ≡ Decided) where
  -- a cube whose models have left, and not among the older items, has left at the item in the decision's place
  pub stuck_here : (c : List ℤ) → over shown c ≡ true → ((t : ℕ → Bool) → holds t c ≡ true → Good f shown t) →
      ((t : ℕ → Bool) → sat f t ≡ true → holds t c ≡ true → (cut shown t older ≡ false) × (cut shown t (turn_with e newer d older) ≡ true)) →
      (t : ℕ → Bool) → holds t c ≡ true → leaves_at shown t e (back (depth older) (newer ++ d ∷ older)) ≡ true
  stuck_here c shows good left t held =
      let g : Good f shown t = good t held in
      let parts = left g.model g.meets (holds_same shown g.model t g.same c shows ∙ held) in
      sym (leaves_same shown g.model t g.same e (back (depth older) (newer ++ d ∷ older)))
      ∙ elim (or_cases (cut shown g.model (back (depth older) (newer ++ d ∷ older))) (leaves_at shown g.model e (back (depth older) (newer ++ d ∷ older))) parts.1) [
        | inl before ↦ absurd (both_ways (cut shown g.model older) parts.0 (sym (cut_kept f shown newer d older s decided g.model) ∙ before))
        | inr here ↦ here
      ]

  -- a cube is stuck among the older items, or its assignments agree with these and have left the trail
  stuck_at : (c : List ℤ) (part : List Item) → Stuck shown (part ++ d ∷ older) c → Stuck shown older c ⊎ ((t : ℕ → Bool) → holds t c ≡ true → (agrees (seen shown) t older ≡ true) × (cut shown t (part ++ d ∷ older) ≡ true))
  stuck_at c [] (inl before) = inl before
  stuck_at c [] (inr here) = inr (λ t held. (
    leaves_agrees shown t d older (here t held),
    or_right (cut shown t older) (leaves_at shown t d older) (here t held),
  ))
  stuck_at c (i ∷ part) (inl before) = elim (stuck_at c part before) [
    | inl old ↦ inl old
    | inr gone ↦ inr (λ t held. ((gone t held).0, or_left (cut shown t (part ++ d ∷ older)) (leaves_at shown t i (part ++ d ∷ older)) (gone t held).1))
  ]
  stuck_at c (i ∷ part) (inr here) = inr (λ t held. (
    agree_tail (seen shown) t d older (agree_older (seen shown) t part (d ∷ older) (leaves_agrees shown t i (part ++ d ∷ older) (here t held))),
    or_right (cut shown t (part ++ d ∷ older)) (leaves_at shown t i (part ++ d ∷ older)) (here t held),
  ))

  stuck_turn : (c : List ℤ) → over shown c ≡ true → ((t : ℕ → Bool) → holds t c ≡ true → Good f shown t) →
      ((t : ℕ → Bool) → sat f t ≡ true → cut shown t (newer ++ d ∷ older) ≡ true → cut shown t (turn_with e newer d older) ≡ true) →
      Stuck shown (newer ++ d ∷ older) c → Stuck shown (turn_with e newer d older) c
  stuck_turn c shows good keeps h = elim (stuck_at c newer h) [
    | inl old ↦ inl (subst (λ rest. Stuck shown rest c) (sym (split f shown newer d older s decided)) (stuck_more shown (back (depth older) newer) older c old))
    | inr gone ↦ inr (stuck_here c shows good (λ t model held. (seen_uncut shown t older (gone t held).0, keeps t model (gone t held).1)))
  ]

  -- the cubes that were found stay stuck, whatever took the decision's place
  pub all_stuck_turn : (cubes : List (List ℤ)) → list_all (over shown) cubes ≡ true → ((t : ℕ → Bool) → 0 < hits t cubes → Good f shown t) →
      ((t : ℕ → Bool) → sat f t ≡ true → cut shown t (newer ++ d ∷ older) ≡ true → cut shown t (turn_with e newer d older) ≡ true) →
      AllStuck shown (newer ++ d ∷ older) cubes → AllStuck shown (turn_with e newer d older) cubes
  all_stuck_turn [] shows good keeps h = tt
  all_stuck_turn (c ∷ cubes) shows good keeps h =
      let (now, rest) = and_parts (over shown c) (list_all (over shown) cubes) shows in (
        stuck_turn c now (λ t held. good t (let one : hit t c ≡ 1 = rw held refl in omega arith)) keeps h.0,
        all_stuck_turn cubes rest (λ t some. good t (omega arith)) keeps h.1,
      )
