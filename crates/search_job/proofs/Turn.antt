-- A decision that a clause turns over. The clause is a reason for its negation under what stays, and so no conflict is
-- needed.
use Rattle.std.proofs.Common.{◌||◌, ◌≡◌, ℕ, suc, ◌+◌, ◌<◌, ◌≤◌, Bool, true, ◌&&◌, cond, nat_eq, ℤ, neg_ℤ, nat_abs, List, [], ◌∷◌, ◌++◌, refl, sym, ap, ◌∙◌, inl, inr, arith}
use Rattle.std.proofs.lemmas.Bool.{or_from, both_ways, cases_Bool, not_from_true, or_left, or_right, or_cases}
use Rattle.std.proofs.lemmas.List.Folds.{list_any-append}
use Rattle.sat_terms.specs.Literals.{lit_true}
use Rattle.sat_terms.specs.Truth.{sat, holds}
use Rattle.sat_terms.proofs.Disjoint.{lit_true-neg}
use Rattle.sat_terms.proofs.CubeLemmas.{nat_abs-neg}
use Rattle.search_region.specs.Trail.{Item, Decided, depth, upto, back, turn_with, seen, is_assigned, is_reason, false_by}
use Rattle.search_region.specs.Steady.{Steady, Fine, FineForced, Follows}
use Rattle.search_region.specs.Region.{cut}
use Rattle.search_region.specs.Running.{Running}
use Rattle.search_region.proofs.Agree.{agree_head, agree_tail}
use Rattle.search_region.proofs.Heart.{forced_true}
use Rattle.std.specs.List.{list_all}
use Rattle.std.specs.Ordering.{int_eq}
use Rattle.search_region.proofs.Literals.{all_weaker}
use Rattle.search_region.proofs.Back.{false_by_back, back_split, depth_back, depth_rises, steady_back, steady_older, none_in_filter, unassigned_newer}
use Rattle.search_region.proofs.Flip.{fine_decided, assigned_newer, cut_full, region_turn}
use Rattle.search_region.proofs.Cut.{same_bools, cut_unflipped, cut_newer, cut_passes, cut_kept, cut_d, follows_back}
use Rattle.search_job.specs.Reasons.{turned}
use Rattle.search_job.specs.Working.{Working}
use Rattle.search_job.proofs.Leaf.{weighs_turned}
use Rattle.search_job.proofs.Stuck.{all_stuck_turn}

module _ (f : List (List ℤ)) (shown : ℕ → Bool) (newer : List Item) (d : Item) (older : List Item) (s : Steady f shown (newer ++ d ∷ older)) (decided : d.kind ≡ Decided) (m : ℕ) (c : List ℤ) (low : m ≤ depth older) (follows : Follows f c) (reason : is_reason c (turned m c d) (back (depth older) (newer ++ d ∷ older)) ≡ true) where
  fine : Fine f shown d older
  fine = (steady_older f shown newer (d ∷ older) s).0

  opens : d.level ≡ suc (depth older)
  opens = (fine_decided f shown d older fine decided).opens

  stays_steady : Steady f shown (back (depth older) (newer ++ d ∷ older))
  stays_steady = steady_back f shown (depth older) (newer ++ d ∷ older) s

  split : back (depth older) (newer ++ d ∷ older) ≡ back (depth older) newer ++ older
  split = back_split f shown newer d older s opens

  flat : depth (back (depth older) (newer ++ d ∷ older)) ≡ depth older
  flat = let b = depth_back f shown (depth older) (newer ++ d ∷ older) s in let up = depth_rises f shown newer (d ∷ older) s in let deep : depth (d ∷ older) ≡ d.level = rw decided refl in let on = opens in omega arith

  forced : FineForced f c (turned m c d) (back (depth older) (newer ++ d ∷ older))
  forced = record { bound = (let at = flat in omega arith); follows = follows; reason = reason }

  pub steady_turned : Steady f shown (turn_with (turned m c d) newer d older)
  steady_turned = (
    record {
      named = rw (nat_abs-neg d.lit) fine.named;
      fresh = rw (nat_abs-neg d.lit, split) (list_any-append (λ j. nat_eq (nat_abs d.lit) (nat_abs j.lit)) (back (depth older) newer) older ∙ or_from (is_assigned (nat_abs d.lit) (back (depth older) newer)) (is_assigned (nat_abs d.lit) older)
          (none_in_filter (λ j. nat_eq (nat_abs d.lit) (nat_abs j.lit)) (upto (depth older)) newer (unassigned_newer f shown newer d older s)) fine.fresh);
      kinds = forced;
    },
    stays_steady,
  )

  -- nobody leaves at it
  turned_stays : (t : ℕ → Bool) → cut shown t (turn_with (turned m c d) newer d older) ≡ cut shown t older
  turned_stays t = cut_unflipped shown t (turned m c d) (back (depth older) (newer ++ d ∷ older)) refl ∙ cut_kept f shown newer d older s decided t

  -- no solution in the decision's side had left among the newer items
  pub turned_cut : (t : ℕ → Bool) → sat f t ≡ true → cut shown t (turn_with (turned m c d) newer d older) ≡ cut shown t (newer ++ d ∷ older)
  turned_cut t model = turned_stays t ∙ elim (cases_Bool (seen shown d)) [
    | inl shows ↦ same_bools (cut shown t older) (cut shown t (newer ++ d ∷ older))
        (λ gone. cut_newer shown t newer (d ∷ older) (cut_d f shown newer d older s decided t ∙ gone))
        (λ gone. elim (cases_Bool (cut shown t older)) [
          | inl before ↦ before
          | inr stays ↦
              let a = cut_passes shown t newer (d ∷ older) gone (cut_d f shown newer d older s decided t ∙ stays) in
              let now : lit_true t d.lit ≡ true = agree_head (seen shown) t d older a shows in
              let all = follows_back f shown newer d older s decided shows t model (agree_tail (seen shown) t d older a) stays in
              absurd (both_ways (lit_true t (neg_ℤ d.lit)) (lit_true-neg t d.lit fine.named ∙ not_from_true (lit_true t d.lit) now)
              (forced_true f shown (depth older) c t (turned m c d) (back (depth older) (newer ++ d ∷ older)) forced stays_steady low model all))
        ])
    | inr hides ↦ sym (cut_full f shown t newer (d ∷ older) s (λ v h. assigned_newer v (d ∷ []) older ((fine_decided f shown d older fine decided).late hides v h)) ∙ cut_d f shown newer d older s decided t)
  ]

-- a clause whose other literals are false by low items is a reason under what stays
pub asserting_is_reason : (newer : List Item) (d : Item) (older : List Item) (m : ℕ) (c : List ℤ) → m ≤ depth older → list_all (λ l. int_eq l (neg_ℤ d.lit) || false_by m (newer ++ d ∷ older) l) c ≡ true → is_reason c (turned m c d) (back (depth older) (newer ++ d ∷ older)) ≡ true
asserting_is_reason newer d older m c low h =
    all_weaker (λ l. int_eq l (neg_ℤ d.lit) || false_by m (newer ++ d ∷ older) l) (λ l. int_eq l (neg_ℤ d.lit) || false_by m (back (depth older) (newer ++ d ∷ older)) l)
    (λ l e. elim (or_cases (int_eq l (neg_ℤ d.lit)) (false_by m (newer ++ d ∷ older) l) e) [
      | inl own ↦ or_left (int_eq l (neg_ℤ d.lit)) (false_by m (back (depth older) (newer ++ d ∷ older)) l) own
      | inr wrong ↦ or_right (int_eq l (neg_ℤ d.lit)) (false_by m (back (depth older) (newer ++ d ∷ older)) l) (false_by_back m (depth older) l low (newer ++ d ∷ older) wrong)
    ])
    c h

-- a decision that a clause turns over keeps the search running
pub turn_keeps_running : (f : List (List ℤ)) (shown : ℕ → Bool) (base : ℕ) (p : List ℤ) (newer : List Item) (d : Item) (older : List Item) (found : List (List ℤ)) (m : ℕ) (c : List ℤ) → Running f shown base p (newer ++ d ∷ older) found → d.kind ≡ Decided → base < d.level → m ≤ depth older → Follows f c → is_reason c (turned m c d) (back (depth older) (newer ++ d ∷ older)) ≡ true → Running f shown base p (turn_with (turned m c d) newer d older) found
turn_keeps_running f shown base p newer d older found m c r decided above low follows reason = record {
  steady = steady_turned f shown newer d older r.steady decided m c low follows reason;
  region = region_turn f shown base p newer d (turned m c d) older found found r.steady (steady_turned f shown newer d older r.steady decided m c low follows reason) decided refl refl above r.region r.region.found_over r.region.good
      (λ t model. r.region.exact t model ∙ ap (λ b. cond (holds t p && b) 1 0) (sym (turned_cut f shown newer d older r.steady decided m c low follows reason t model)));
}

-- and the job working: a leaf is paid for where the decision is shown
pub turn_keeps_working : (f : List (List ℤ)) (shown : ℕ → Bool) (n base : ℕ) (count : ℕ → ℕ) (q : List ℤ) (newer : List Item) (d : Item) (older : List Item) (found : List (List ℤ)) (leaves then m : ℕ) (c : List ℤ) → Working f shown n base count q (newer ++ d ∷ older) found leaves → d.kind ≡ Decided → base < d.level → m ≤ depth older → Follows f c → is_reason c (turned m c d) (back (depth older) (newer ++ d ∷ older)) ≡ true → leaves ≤ then → then ≤ leaves + cond (seen shown d) 1 0 → Working f shown n base count q (turn_with (turned m c d) newer d older) found then
turn_keeps_working f shown n base count q newer d older found leaves then m c w decided above low follows reason later most = record {
  running = turn_keeps_running f shown base q newer d older found m c w.running decided above low follows reason;
  stuck = all_stuck_turn f shown newer d (turned m c d) older w.running.steady decided found w.running.region.found_over w.running.region.good
      (λ t model gone. turned_cut f shown newer d older w.running.steady decided m c low follows reason t model ∙ gone) w.stuck;
  weights = weighs_turned f shown n base newer d (turned m c d) older w.running.steady decided above refl refl (nat_abs-neg d.lit) q count leaves then later most w.weights;
}
