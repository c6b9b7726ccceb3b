-- A conflict: its decision is turned over, and a leaf is paid for where the decision is shown. Or the job is closed.
use Rattle.std.proofs.Common.{◌≡◌, ℕ, ◌+◌, ◌<◌, ◌≤◌, Bool, true, cond, ℤ, List, [], ◌∷◌, ◌++◌, refl, ◌∙◌, inl, inr}
use Rattle.std.proofs.lemmas.Bool.{cases_Bool}
use Rattle.sat_terms.specs.Truth.{sat}
use Rattle.sat_terms.proofs.CubeLemmas.{nat_abs-neg}
use Rattle.search_region.specs.Trail.{Item, Decided, depth, flip, turn_over, seen}
use Rattle.search_region.specs.Steady.{Follows}
use Rattle.search_region.specs.Region.{cut}
use Rattle.search_region.specs.Conflict.{is_false_upto}
use Rattle.search_region.proofs.Cut.{conflict_cut, hidden_cut}
use Rattle.search_region.proofs.Conflict.{conflict_keeps_running, conflict_closes}
use Rattle.search_job.specs.Weights.{FitsWeighed}
use Rattle.search_job.specs.Working.{Working}
use Rattle.search_job.proofs.Fits.{closed_fits_weighed}
use Rattle.search_job.proofs.Leaf.{weighs_turned}
use Rattle.search_job.proofs.Stuck.{all_stuck_turn}

module _ (f : List (List ℤ)) (shown : ℕ → Bool) (n base : ℕ) (count : ℕ → ℕ) (q : List ℤ) where
  -- a conflict above the base
  pub conflict_keeps_working : (newer : List Item) (d : Item) (older : List Item) (found : List (List ℤ)) (leaves then : ℕ) (c : List ℤ) → Working f shown n base count q (newer ++ d ∷ older) found leaves → d.kind ≡ Decided → base < d.level → Follows f c → is_false_upto d.level (newer ++ d ∷ older) c ≡ true → leaves ≤ then → then ≤ leaves + cond (seen shown d) 1 0 → Working f shown n base count q (turn_over newer d older) found then
  conflict_keeps_working newer d older found leaves then c w decided above follows wrong later most = record {
    running = conflict_keeps_running f shown base q newer d older found c w.running decided above follows wrong;
    stuck = all_stuck_turn f shown newer d (flip (depth older) d) older w.running.steady decided found w.running.region.found_over w.running.region.good
        (λ t model gone. same_cut t model ∙ gone) w.stuck;
    weights = weighs_turned f shown n base newer d (flip (depth older) d) older w.running.steady decided above refl refl (nat_abs-neg d.lit) q count leaves then later most w.weights;
  }
    where
      same_cut : (t : ℕ → Bool) → sat f t ≡ true → cut shown t (turn_over newer d older) ≡ cut shown t (newer ++ d ∷ older)
      same_cut t model = elim (cases_Bool (seen shown d)) [
        | inl shows ↦ conflict_cut f shown newer d older w.running.steady decided shows c follows wrong t model
        | inr hides ↦ hidden_cut f shown newer d older w.running.steady decided hides t
      ]

  -- a conflict at the base
  pub conflict_ends_working : (k : ℕ) (c : List ℤ) (trail : List Item) (found : List (List ℤ)) (leaves then : ℕ) → Working f shown n base count q trail found leaves → k ≤ base → Follows f c → is_false_upto k trail c ≡ true → then ≤ leaves + 1 → FitsWeighed f shown n q found [] then
  conflict_ends_working k c trail found leaves then w low follows wrong most =
      closed_fits_weighed f shown n base count q trail found found leaves then w (conflict_closes f shown base q k c trail found w.running low follows wrong) most
