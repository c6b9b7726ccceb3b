-- A found model: its cube is stuck where its decision is turned over, and a leaf is paid for. Or the job is closed.
use Rattle.std.proofs.Common.{◌≡◌, ℕ, ◌+◌, ◌<◌, ◌≤◌, Bool, true, false, ◌||◌, ℤ, List, [], ◌∷◌, ◌++◌, refl, ◌∙◌, inr, arith}
use Rattle.std.specs.List.{list_all}
use Rattle.std.proofs.lemmas.Bool.{or_left, or_right, both_ways, false_from_ne_true}
use Rattle.sat_terms.specs.Truth.{sat, holds}
use Rattle.sat_terms.proofs.CubeLemmas.{nat_abs-neg}
use Rattle.search_region.specs.Trail.{Item, Decided, depth, flip, turn_over, seen}
use Rattle.search_region.specs.Steady.{Steady}
use Rattle.search_region.specs.Cubes.{hit, Good}
use Rattle.search_region.specs.Region.{cut}
use Rattle.search_region.specs.Model.{is_met, keeps_flips, reaches, are_named, CubeOf}
use Rattle.search_region.proofs.Cut.{found_cut, cut_newer, cut_d}
use Rattle.search_region.proofs.Hits.{hits_push}
use Rattle.search_region.proofs.Model.{reached_shown, cube_apart, found_good, model_keeps_running, model_closes}
use Rattle.search_job.specs.Weights.{FitsWeighed}
use Rattle.search_job.specs.Working.{Working}
use Rattle.search_job.proofs.Fits.{closed_fits_weighed}
use Rattle.search_job.proofs.Leaf.{weighs_turned}
use Rattle.search_job.proofs.Stuck.{stuck_here, all_stuck_turn, all_stuck_push}

module _ (f : List (List ℤ)) (shown : ℕ → Bool) (n base : ℕ) (count : ℕ → ℕ) (q : List ℤ) where
  -- a model above the base, with the level that its cube needs
  pub model_keeps_working : (newer : List Item) (d : Item) (older : List Item) (found : List (List ℤ)) (leaves then : ℕ) (c : List ℤ) → Working f shown n base count q (newer ++ d ∷ older) found leaves → d.kind ≡ Decided → base < d.level → are_named f ≡ true → reaches shown d.level (newer ++ d ∷ older) ≡ true → keeps_flips shown d.level (newer ++ d ∷ older) ≡ true → list_all (is_met shown d.level (newer ++ d ∷ older)) f ≡ true → CubeOf shown d.level (newer ++ d ∷ older) c → leaves ≤ then → then ≤ leaves + 1 → Working f shown n base count q (turn_over newer d older) (found ++ c ∷ []) then
  model_keeps_working newer d older found leaves then c w decided above named reached keeps met cube later most = record {
    running = model_keeps_running f shown base q newer d older found c w.running decided above named reached keeps met cube;
    stuck = all_stuck_push shown (turn_over newer d older) found c
        (all_stuck_turn f shown newer d (flip (depth older) d) older s decided found w.running.region.found_over w.running.region.good
        (λ t model gone. cuts t model ∙ or_left (cut shown t (newer ++ d ∷ older)) (holds t c) gone) w.stuck)
        (inr (stuck_here f shown newer d (flip (depth older) d) older s decided c cube.over_shown good
        (λ t model held. (uncut t held, cuts t model ∙ or_right (cut shown t (newer ++ d ∷ older)) (holds t c) held))));
    weights = weighs_turned f shown n base newer d (flip (depth older) d) older s decided above refl refl (nat_abs-neg d.lit) q count leaves then later (rw shows most) w.weights;
  }
    where
      s : Steady f shown (newer ++ d ∷ older)
      s = w.running.steady

      shows : seen shown d ≡ true
      shows = reached_shown f shown newer d older s decided reached

      cuts : (t : ℕ → Bool) → sat f t ≡ true → cut shown t (turn_over newer d older) ≡ (cut shown t (newer ++ d ∷ older) || holds t c)
      cuts t model = found_cut f shown newer d older s decided shows c cube t model

      good : (t : ℕ → Bool) → holds t c ≡ true → Good f shown t
      good t held = found_good f shown base q d.level (newer ++ d ∷ older) found c w.running named met cube t (let both = hits_push t found c in let one : hit t c ≡ 1 = rw held refl in omega arith)

      uncut : (t : ℕ → Bool) → holds t c ≡ true → cut shown t older ≡ false
      uncut t held = false_from_ne_true (cut shown t older) λ gone. both_ways (cut shown t (newer ++ d ∷ older))
          (cube_apart f shown base q d.level (newer ++ d ∷ older) found c w.running (omega arith) keeps cube t held).0
          (cut_newer shown t newer (d ∷ older) (cut_d f shown newer d older s decided t ∙ gone))

  -- a model whose cube needs no level above the base
  pub model_ends_working : (c : List ℤ) (trail : List Item) (found : List (List ℤ)) (leaves then : ℕ) → Working f shown n base count q trail found leaves → are_named f ≡ true → keeps_flips shown base trail ≡ true → list_all (is_met shown base trail) f ≡ true → CubeOf shown base trail c → then ≤ leaves + 1 → FitsWeighed f shown n q (found ++ c ∷ []) [] then
  model_ends_working c trail found leaves then w named keeps met cube most =
      closed_fits_weighed f shown n base count q trail found (found ++ c ∷ []) leaves then w (model_closes f shown base q c trail found w.running named keeps met cube) most
