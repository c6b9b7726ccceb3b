-- A conflict: a decision is turned over, or the search is closed.
use Rattle.std.proofs.Common.{◌≡◌, ℕ, ◌<◌, ◌≤◌, Bool, true, ◌&&◌, cond, ℤ, List, ◌∷◌, ◌++◌, refl, sym, ap, ◌∙◌, inl, inr, arith, nat_le}
use Rattle.std.proofs.lemmas.Bool.{and_parts, and_from, cases_Bool, true_from_ne_false, le-leb, leb-true}
use Rattle.sat_terms.specs.Truth.{sat, holds}
use Rattle.search_region.specs.Trail.{Item, Decided, depth, flip, turn_over, seen, chosen_upto, is_chosen}
use Rattle.search_region.specs.Steady.{Steady, Follows}
use Rattle.search_region.specs.Region.{cut, Closed}
use Rattle.search_region.specs.Running.{Running}
use Rattle.search_region.specs.Conflict.{is_false_upto}
use Rattle.search_region.proofs.Flip.{none_beside, steady_flip, region_turn}
use Rattle.search_region.proofs.Cut.{conflict_cut, hidden_cut}
use Rattle.search_region.proofs.Agree.{agree_fewer}
use Rattle.search_region.proofs.Heart.{conflict}

module _ (f : List (List ℤ)) (shown : ℕ → Bool) (base : ℕ) (p : List ℤ) where
  -- a conflict above the base: its decision is turned over
  pub conflict_keeps_running : (newer : List Item) (d : Item) (older : List Item) (found : List (List ℤ)) (c : List ℤ) → Running f shown base p (newer ++ d ∷ older) found → d.kind ≡ Decided → base < d.level → Follows f c → is_false_upto d.level (newer ++ d ∷ older) c ≡ true → Running f shown base p (turn_over newer d older) found
  conflict_keeps_running newer d older found c r e above follows wrong = record {
    steady = steady;
    region = region_turn f shown base p newer d (flip (depth older) d) older found found r.steady steady e refl refl above r.region r.region.found_over r.region.good
        (λ t m. r.region.exact t m ∙ ap (λ b. cond (holds t p && b) 1 0) (sym (same_cut t m)));
  }
    where
      steady : Steady f shown (turn_over newer d older)
      steady = steady_flip f shown newer d older r.steady e (λ hides. none_beside f shown newer d older c r.steady e hides follows wrong)

      same_cut : (t : ℕ → Bool) → sat f t ≡ true → cut shown t (turn_over newer d older) ≡ cut shown t (newer ++ d ∷ older)
      same_cut t m = elim (cases_Bool (seen shown d)) [
        | inl shows ↦ conflict_cut f shown newer d older r.steady e shows c follows wrong t m
        | inr hides ↦ hidden_cut f shown newer d older r.steady e hides t
      ]

  -- a conflict at the base or below it: nothing more is to be found
  pub conflict_closes : (k : ℕ) (c : List ℤ) (trail : List Item) (found : List (List ℤ)) → Running f shown base p trail found → k ≤ base → Follows f c → is_false_upto k trail c ≡ true → Closed f shown p found
  conflict_closes k c trail found r low follows wrong = record {
    found_over = r.region.found_over;
    prefix_over = r.region.prefix_over;
    good = r.region.good;
    exact = λ t m. r.region.exact t m ∙ elim (cases_Bool (holds t p)) [
      | inl held ↦ rw (
        held,
        true_from_ne_false (cut shown t trail) λ stays.
            conflict f shown k c t trail r.steady follows wrong m
            (agree_fewer (chosen_upto base) (chosen_upto k) (λ i b. let (now, on) = and_parts (is_chosen i.kind) (nat_le i.level k) b in
            and_from (is_chosen i.kind) (nat_le i.level base) now (let on1 = leb-true i.level k on in le-leb i.level base (omega arith))) t trail (r.region.above t held))
            stays,
      ) refl
      | inr free ↦ rw free refl
    ];
  }
