-- A literal that a clause implies costs nothing.
use Rattle.std.proofs.Common.{◌≡◌, ℕ, ◌<◌, ◌≤◌, Bool, true, false, not, ℤ, nat_abs, List, ◌∷◌, [], refl, ap}
use Rattle.std.proofs.lemmas.Bool.{and_right}
use Rattle.search_region.specs.Trail.{Item, Implied, depth, is_assigned, is_decided, is_implied, is_reason, seen}
use Rattle.search_region.specs.Steady.{Follows}
use Rattle.search_region.proofs.Imply.{imply_keeps_running}
use Rattle.search_job.specs.Working.{Working}
use Rattle.search_job.proofs.Leaf.{shut_undecided}
use Rattle.search_job.proofs.Stuck.{all_stuck_more}
use Rattle.search_job.proofs.Decide.{weighs_quiet}

pub imply_keeps_working : (f : List (List ℤ)) (shown : ℕ → Bool) (n base : ℕ) (count : ℕ → ℕ) (q : List ℤ) (trail : List Item) (found : List (List ℤ)) (leaves : ℕ) (i : Item) (c : List ℤ) → Working f shown n base count q trail found leaves → i.kind ≡ Implied c → i.level ≤ depth trail → 0 < nat_abs i.lit → is_assigned (nat_abs i.lit) trail ≡ false → Follows f c → is_reason c i trail ≡ true → Working f shown n base count q (i ∷ trail) found leaves
imply_keeps_working f shown n base count q trail found leaves i c w implied low named fresh follows reason = record {
  running = imply_keeps_running f shown base q trail found i c w.running implied low named fresh follows reason;
  stuck = all_stuck_more shown (i ∷ []) trail found w.stuck;
  weights = weighs_quiet shown n base q count leaves i trail (shut_undecided shown base i (ap is_decided implied))
      (and_right (seen shown i) (not (is_implied i.kind)) (rw implied refl)) w.weights;
}
