-- A decision keeps a job working.
use Rattle.std.proofs.Common.{◌≡◌, ℕ, suc, ◌≤◌, Bool, true, false, not, ◌&&◌, nat_lt, ℤ, neg_ℤ, nat_abs, List, [], ◌∷◌, ◌++◌, refl, ap, inl, inr, arith}
use Rattle.std.proofs.lemmas.Bool.{and_from, cases_Bool, lt-ltb}
use Rattle.search_region.specs.Trail.{Item, Decided, depth, is_assigned, is_decided, is_implied, seen}
use Rattle.search_region.specs.Steady.{Steady}
use Rattle.search_region.specs.Region.{front, untried, left_open, is_open}
use Rattle.search_job.specs.Weights.{weights, shown_count, AreShownUpto}
use Rattle.search_job.proofs.Weights.{weight_half, weight_either, weights_push, front_short}
use Rattle.search_job.proofs.Leaf.{shut_hidden}

-- a decision leaves as much open as there was
pub decide_opens : (f : List (List ℤ)) (shown : ℕ → Bool) (m base : ℕ) (trail : List Item) (i : Item) → AreShownUpto m shown →
    Steady f shown trail → i.kind ≡ Decided → i.level ≡ suc (depth trail) → base ≤ depth trail →
    is_assigned (nat_abs i.lit) trail ≡ false →
    weights (shown_count m shown) (left_open shown base (i ∷ trail)) ≤ weights (shown_count m shown) (left_open shown base trail)
decide_opens f shown m base trail i few steady decided opens based fresh = elim (cases_Bool (seen shown i)) [
  | inl shows ↦
      let n = shown_count m shown in
      let half = weight_half n (front shown trail) i.lit (front_short m shown f (nat_abs i.lit) trail few steady shows fresh) in
      let other = weight_either n (front shown trail) i.lit (neg_ℤ i.lit) in
      let was = weights_push n (untried shown base trail) (front shown trail) in
      let side = weights_push n (untried shown base trail) (front shown trail ++ neg_ℤ i.lit ∷ []) in
      let all = weights_push n (untried shown base trail ++ (front shown trail ++ neg_ℤ i.lit ∷ []) ∷ []) (front shown trail ++ i.lit ∷ []) in
      let opened : is_open shown base i ≡ true = and_from (is_decided i.kind && seen shown i) (nat_lt base i.level)
      (and_from (is_decided i.kind) (seen shown i) (ap is_decided decided) shows) (lt-ltb base i.level (omega arith)) in
      let fronts : (seen shown i && not (is_implied i.kind)) ≡ true = rw (shows, decided) refl in
      rw (opened, fronts) (omega arith)
  | inr hides ↦
      let shut = shut_hidden shown base i hides in
      let out : (seen shown i && not (is_implied i.kind)) ≡ false = rw hides refl in
      rw (shut, out) (omega arith)
]
