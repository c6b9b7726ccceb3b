-- Turning a decision over keeps a trail steady, and its region.
use Rattle.std.proofs.Common.{◌≡◌, ℕ, suc, ◌≤◌, Bool, true, false, not, ◌&&◌, ◌||◌, nat_le, nat_eq, ℤ, nat_abs, List, [], ◌∷◌, ◌++◌, refl, ap, subst, ◌∙◌, arith, ◌<◌, cond, inl, inr}
use Rattle.std.proofs.lemmas.Bool.{and_parts, or_from, or_right, both_ways, false_from_ne_true, not_from_true, not_from_false, and_left, and_right, leb-true}
use Rattle.std.proofs.lemmas.List.Folds.{list_any-append}
use Rattle.sat_terms.specs.Literals.{lit_true}
use Rattle.search_region.specs.Trail.{Item, Kind, Assumed, Decided, Flipped, Turned, Implied, depth, upto, back, flip, turn_over, turn_with, is_decided, branches, seen, agrees, chosen_upto, is_assigned, is_flipped, is_branch, is_chosen}
use Rattle.search_region.specs.Steady.{Steady, Fine, FineKind, FineDecided, IsFull, NoneBeside, Follows}
use Rattle.search_region.specs.Region.{cut, leaves_at, front, root, Region}
use Rattle.search_region.specs.Conflict.{is_false_upto}
use Rattle.search_region.proofs.Agree.{agree_head, agree_tail, agree_more, agree_fewer}
use Rattle.search_region.proofs.Heart.{conflict}
use Rattle.search_region.proofs.Back.{back_split, depth_back, depth_rises, steady_older, steady_back, unassigned_newer, none_in_filter, all_in_filter}
use Rattle.search_region.proofs.Root.{cases_le, front_older, root_whole, root_above, root_older}
use Rattle.sat_terms.proofs.Disjoint.{lit_true-neg}
use Rattle.sat_terms.proofs.CubeLemmas.{nat_abs-neg}
use Rattle.std.specs.List.{list_all}
use Rattle.sat_terms.specs.Truth.{sat, holds}
use Rattle.search_region.specs.Cubes.{hits, Good, over}

-- an assignment that agrees with all that stands by no clause never leaves the trail
pub never_cut : (shown t : ℕ → Bool) (trail : List Item) → agrees branches t trail ≡ true → cut shown t trail ≡ false
never_cut shown t [] a = refl
never_cut shown t (i ∷ older) a =
    or_from (cut shown t older) (leaves_at shown t i older) (never_cut shown t older (agree_tail branches t i older a)) (by_kind i.kind refl)
  where
    true_here : (c : Kind) → i.kind ≡ c → is_branch c ≡ true → lit_true t i.lit ≡ true
    true_here c e b = agree_head branches t i older a (ap is_branch e ∙ b)

    unflipped : is_flipped i.kind ≡ false → leaves_at shown t i older ≡ false
    unflipped e = and_left (is_flipped i.kind && seen shown i) (not (lit_true t i.lit) && agrees (seen shown) t older) (and_left (is_flipped i.kind) (seen shown i) e)

    by_kind : (c : Kind) → i.kind ≡ c → leaves_at shown t i older ≡ false
    by_kind Assumed e = unflipped (ap is_flipped e)
    by_kind Decided e = unflipped (ap is_flipped e)
    by_kind Flipped e = and_right (is_flipped i.kind && seen shown i) (not (lit_true t i.lit) && agrees (seen shown) t older) (and_left (not (lit_true t i.lit)) (agrees (seen shown) t older) (not_from_true (lit_true t i.lit) (true_here Flipped e refl)))
    by_kind (Turned w) e = unflipped (ap is_flipped e)
    by_kind (Implied w) e = unflipped (ap is_flipped e)

pub assigned_newer : (v : ℕ) (newer older : List Item) → is_assigned v older ≡ true → is_assigned v (newer ++ older) ≡ true
assigned_newer v newer older h = list_any-append (λ j. nat_eq v (nat_abs j.lit)) newer older ∙ or_right (is_assigned v newer) (is_assigned v older) h

pub agree_older : (pick : Item → Bool) (t : ℕ → Bool) (newer older : List Item) → agrees pick t (newer ++ older) ≡ true → agrees pick t older ≡ true
agree_older pick t [] older a = a
agree_older pick t (i ∷ newer) older a = agree_older pick t newer older (agree_tail pick t i (newer ++ older) a)

module _ (f : List (List ℤ)) (shown : ℕ → Bool) where
  pub fine_decided : (d : Item) (older : List Item) → Fine f shown d older → d.kind ≡ Decided → FineDecided shown d older
  fine_decided d older h e = subst (λ c. FineKind f shown c d older) e h.kinds

  -- the choices up to a decision's level are no newer than it
  pub chosen_newer : (t : ℕ → Bool) (newer : List Item) (d : Item) (older : List Item) → Steady f shown (newer ++ d ∷ older) → d.kind ≡ Decided → d.level ≡ suc (depth older) → agrees (chosen_upto d.level) t (d ∷ older) ≡ true → agrees (chosen_upto d.level) t (newer ++ d ∷ older) ≡ true
  chosen_newer t [] d older s e l a = a
  chosen_newer t (i ∷ newer) d older s e l a =
      agree_more (chosen_upto d.level) t i (newer ++ d ∷ older)
      (λ c. absurd (by_kind i.kind refl s.0.kinds (depth_rises f shown newer (d ∷ older) s.1) (and_parts (is_chosen i.kind) (nat_le i.level d.level) c)))
      (chosen_newer t newer d older s.1 e l a)
    where
      above : depth (d ∷ older) ≡ d.level
      above = rw e refl

      by_kind : (c : Kind) → i.kind ≡ c → FineKind f shown c i (newer ++ d ∷ older) → depth (d ∷ older) ≤ depth (newer ++ d ∷ older) → (is_chosen i.kind ≡ true) × (nat_le i.level d.level ≡ true) → ⊥
      by_kind Assumed c h rises g = let first = h.first in let up = above in omega arith
      by_kind Decided c h rises g = let opens = h.opens in let up = above in let low = leb-true i.level d.level g.1 in omega arith
      by_kind Flipped c h rises g = both_ways (is_chosen i.kind) (ap is_chosen c) g.0
      by_kind (Turned w) c h rises g = both_ways (is_chosen i.kind) (ap is_chosen c) g.0
      by_kind (Implied w) c h rises g = both_ways (is_chosen i.kind) (ap is_chosen c) g.0

  -- once all shown variables are assigned no assignment leaves the trail
  pub cut_full : (t : ℕ → Bool) (newer older : List Item) → Steady f shown (newer ++ older) → IsFull shown older → cut shown t (newer ++ older) ≡ cut shown t older
  cut_full t [] older s full = refl
  cut_full t (i ∷ newer) older s full =
      ap (λ b. cut shown t (newer ++ older) || b) stays ∙ or_false (cut shown t (newer ++ older)) ∙ cut_full t newer older s.1 full
    where
      or_false : (b : Bool) → (b || false) ≡ b
      or_false true = refl
      or_false false = refl

      hides : seen shown i ≡ false
      hides = false_from_ne_true (seen shown i) λ shows. both_ways (is_assigned (nat_abs i.lit) (newer ++ older)) s.0.fresh (assigned_newer (nat_abs i.lit) newer older (full (nat_abs i.lit) shows))

      stays : leaves_at shown t i (newer ++ older) ≡ false
      stays = and_left (is_flipped i.kind && seen shown i) (not (lit_true t i.lit) && agrees (seen shown) t (newer ++ older)) (and_right (is_flipped i.kind) (seen shown i) hides)

  -- a conflict on a hidden decision leaves nothing beside what is turned over
  pub none_beside : (newer : List Item) (d : Item) (older : List Item) (c : List ℤ) → Steady f shown (newer ++ d ∷ older) → d.kind ≡ Decided → seen shown d ≡ false → Follows f c → is_false_upto d.level (newer ++ d ∷ older) c ≡ true → NoneBeside f (flip (depth older) d) (back (depth older) (newer ++ d ∷ older))
  none_beside newer d older c s e hides follows wrong t m a =
      lit_true-neg t d.lit fine.named ∙ not_from_false (lit_true t d.lit) (false_from_ne_true (lit_true t d.lit) λ now.
      conflict f shown d.level c t (newer ++ d ∷ older) s follows wrong m
      (chosen_newer t newer d older s e decided.opens (agree_more (chosen_upto d.level) t d older (λ b. now) (agree_fewer branches (chosen_upto d.level) chosen_branch t older old)))
      (cut_full t newer (d ∷ older) s full ∙ or_from (cut shown t older) (leaves_at shown t d older) (never_cut shown t older old) (rw e refl)))
    where
      fine : Fine f shown d older
      fine = (steady_older f shown newer (d ∷ older) s).0

      decided : FineDecided shown d older
      decided = fine_decided d older fine e

      old : agrees branches t older ≡ true
      old = agree_older branches t (back (depth older) newer) older (subst (λ rest. agrees branches t rest ≡ true) (back_split f shown newer d older s decided.opens) a)

      full : IsFull shown (d ∷ older)
      full v h = assigned_newer v (d ∷ []) older (decided.late hides v h)

      chosen_branch : (i : Item) → chosen_upto d.level i ≡ true → branches i ≡ true
      chosen_branch i h = by_kind i.kind (and_parts (is_chosen i.kind) (nat_le i.level d.level) h).0
        where
          by_kind : (k : Kind) → is_chosen k ≡ true → is_branch k ≡ true
          by_kind Assumed g = refl
          by_kind Decided g = refl
          by_kind Flipped g = refl
          by_kind (Turned w) g = g
          by_kind (Implied w) g = g

  -- turning a decision over keeps the trail steady; beside a hidden one nothing may be left
  pub steady_flip : (newer : List Item) (d : Item) (older : List Item) → Steady f shown (newer ++ d ∷ older) → d.kind ≡ Decided → (seen shown d ≡ false → NoneBeside f (flip (depth older) d) (back (depth older) (newer ++ d ∷ older))) → Steady f shown (turn_over newer d older)
  steady_flip newer d older s e spent = (
    record {
      named = rw (nat_abs-neg d.lit) fine.named;
      fresh = rw (nat_abs-neg d.lit, split) (list_any-append (λ j. nat_eq (nat_abs d.lit) (nat_abs j.lit)) (back (depth older) newer) older ∙ or_from (is_assigned (nat_abs d.lit) (back (depth older) newer)) (is_assigned (nat_abs d.lit) older) gone fine.fresh);
      kinds = record {
        stays = (let now = depth_back f shown (depth older) (newer ++ d ∷ older) s in let up = depth_rises f shown newer (d ∷ older) s in let on = above in let opens = decided.opens in omega arith);
        late = λ hides v h. rw split (assigned_newer v (back (depth older) newer) older (decided.late (subst (λ n. shown n ≡ false) (nat_abs-neg d.lit) hides) v h));
        spent = λ hides. spent (subst (λ n. shown n ≡ false) (nat_abs-neg d.lit) hides);
      };
    },
    steady_back f shown (depth older) (newer ++ d ∷ older) s,
  )
    where
      fine : Fine f shown d older
      fine = (steady_older f shown newer (d ∷ older) s).0

      decided : FineDecided shown d older
      decided = fine_decided d older fine e

      above : depth (d ∷ older) ≡ d.level
      above = rw e refl

      split : back (depth older) (newer ++ d ∷ older) ≡ back (depth older) newer ++ older
      split = back_split f shown newer d older s decided.opens

      gone : is_assigned (nat_abs d.lit) (back (depth older) newer) ≡ false
      gone = none_in_filter (λ j. nat_eq (nat_abs d.lit) (nat_abs j.lit)) (upto (depth older)) newer (unassigned_newer f shown newer d older s)

module _ (f : List (List ℤ)) (shown : ℕ → Bool) (base : ℕ) (p : List ℤ) where
  -- an item in a decision's place keeps it, where it isn't chosen itself, and the cubes found are those of before and
  -- what has newly left
  pub region_turn : (newer : List Item) (d e : Item) (older : List Item) (found more : List (List ℤ)) → Steady f shown (newer ++ d ∷ older) → Steady f shown (turn_with e newer d older) → d.kind ≡ Decided → is_decided e.kind ≡ false → is_chosen e.kind ≡ false → base < d.level → Region f shown base p (newer ++ d ∷ older) found
      → list_all (over shown) more ≡ true → ((t : ℕ → Bool) → 0 < hits t more → Good f shown t)
      → ((t : ℕ → Bool) → sat f t ≡ true → hits t more ≡ cond (holds t p && cut shown t (turn_with e newer d older)) 1 0)
      → Region f shown base p (turn_with e newer d older) more
  region_turn newer d e older found more s after decided undecided unchosen above r more_over good exact = record {
    based = (let on = opens in rw flat (omega arith));
    found_over = more_over;
    prefix_over = r.prefix_over;
    good = good;
    exact = exact;
    below = below;
    above = λ t h. agree_more (chosen_upto base) t e (back (depth older) (newer ++ d ∷ older)) (λ c. absurd (both_ways (is_chosen e.kind) unchosen (and_parts (is_chosen e.kind) (nat_le e.level base) c).0))
        (all_in_filter (λ i. not (chosen_upto base i) || lit_true t i.lit) (upto (depth older)) (newer ++ d ∷ older) (r.above t h));
  }
    where
      opens : d.level ≡ suc (depth older)
      opens = (fine_decided f shown d older (steady_older f shown newer (d ∷ older) s).0 decided).opens

      deep : depth (d ∷ older) ≡ d.level
      deep = rw decided refl

      split : back (depth older) (newer ++ d ∷ older) ≡ back (depth older) newer ++ older
      split = back_split f shown newer d older s opens

      flat : depth (turn_with e newer d older) ≡ depth older
      flat = rw undecided (let b = depth_back f shown (depth older) (newer ++ d ∷ older) s in let up = depth_rises f shown newer (d ∷ older) s in let on = opens in let at = deep in omega arith)

      before : root base (newer ++ d ∷ older) ≡ root base older
      before = let on = opens in let at = deep in root_older f shown base newer (d ∷ older) s (omega arith) ∙ root_above base d older (omega arith)

      shape : turn_with e newer d older ≡ (e ∷ back (depth older) newer) ++ older
      shape = ap (λ rest. e ∷ rest) split

      below : (t : ℕ → Bool) → holds t (front shown (root base (turn_with e newer d older))) ≡ true → holds t p ≡ true
      below t h = r.below t (rw before (elim (cases_le (depth older) base) [
        | inl low ↦ rw (root_whole base older low) (front_older shown t (e ∷ back (depth older) newer) older
            (subst (λ rest. holds t (front shown rest) ≡ true) (root_whole base (turn_with e newer d older) (rw flat low) ∙ shape) h))
        | inr high ↦ subst (λ rest. holds t (front shown rest) ≡ true)
            (ap (root base) shape ∙ root_older f shown base (e ∷ back (depth older) newer) older (subst (Steady f shown) shape after) high) h
      ]))
