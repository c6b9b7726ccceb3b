-- A decision.
use Rattle.std.proofs.Common.{◌≡◌, ℕ, suc, ◌+◌, ◌<◌, ◌≤◌, Bool, true, false, not, ◌&&◌, nat_le, nat_lt, ℤ, neg_ℤ, nat_abs, List, ◌∷◌, ◌++◌, [], length, refl, ap, ◌∙◌, inl, inr, arith}
use Rattle.std.proofs.lemmas.Bool.{and_from, cases_Bool, le-leb, lt-ltb}
use Rattle.search_region.specs.Trail.{Item, Decided, depth, is_assigned, is_decided, is_implied, seen}
use Rattle.search_region.specs.Steady.{IsFull}
use Rattle.search_region.specs.Region.{front, is_open}
use Rattle.search_region.proofs.Decide.{decide_keeps_running}
use Rattle.search_job.specs.Weights.{weight, weighs, shown_count, AreShownUpto}
use Rattle.search_job.specs.Working.{Working}
use Rattle.search_job.proofs.Weights.{weight_half, weight_either, weighs_recount, weighs_shut, front_short}
use Rattle.search_job.proofs.Leaf.{shut_hidden}
use Rattle.search_job.proofs.Stuck.{all_stuck_more}

module _ (shown : ℕ → Bool) (n base : ℕ) (p : List ℤ) where
  -- an item that opens nothing and isn't in the present prefix
  pub weighs_quiet : (count : ℕ → ℕ) (now : ℕ) (i : Item) (trail : List Item) → is_open shown base i ≡ false → (seen shown i && not (is_implied i.kind)) ≡ false → weighs shown n base count p (weight n (front shown trail)) now trail ≡ true → weighs shown n base count p (weight n (front shown (i ∷ trail))) now (i ∷ trail) ≡ true
  weighs_quiet count now i trail shut out h = rw out (weighs_shut shown n base p count (weight n (front shown trail)) now i trail shut ∙ h)

  -- an open decision splits the present prefix in two halves, and its level has the count of now
  weighs_open : (count : ℕ → ℕ) (now : ℕ) (i : Item) (trail : List Item) → is_open shown base i ≡ true → (seen shown i && not (is_implied i.kind)) ≡ true → length (front shown trail) < n → count i.level ≡ now → weighs shown n base count p (weight n (front shown trail)) now trail ≡ true → weighs shown n base count p (weight n (front shown (i ∷ trail))) now (i ∷ trail) ≡ true
  weighs_open count now i trail opens fronts short same h =
      let half = weight_half n (front shown trail) i.lit short in
      let other = weight_either n (front shown trail) i.lit (neg_ℤ i.lit) in
      rw (fronts, opens, same) (and_from
      (nat_le (weight n (front shown trail ++ neg_ℤ i.lit ∷ []) + weight n (front shown trail ++ i.lit ∷ []) + now) (weight n (front shown trail) + now))
      (nat_le now now && weighs shown n base count p (weight n (front shown trail)) now trail)
      (le-leb (weight n (front shown trail ++ neg_ℤ i.lit ∷ []) + weight n (front shown trail ++ i.lit ∷ []) + now) (weight n (front shown trail) + now) (omega arith))
      (and_from (nat_le now now) (weighs shown n base count p (weight n (front shown trail)) now trail) (le-leb now now (omega arith)) h))

-- a decision writes the leaves so far as the count of its level
pub decide_keeps_working : (f : List (List ℤ)) (shown : ℕ → Bool) (m base : ℕ) (count next : ℕ → ℕ) (q : List ℤ) (trail : List Item) (found : List (List ℤ)) (leaves : ℕ) (i : Item) → AreShownUpto m shown → Working f shown (shown_count m shown) base count q trail found leaves → i.kind ≡ Decided → i.level ≡ suc (depth trail) → 0 < nat_abs i.lit → is_assigned (nat_abs i.lit) trail ≡ false → (seen shown i ≡ false → IsFull shown trail) → ((k : ℕ) → k ≤ depth trail → next k ≡ count k) → next i.level ≡ leaves → Working f shown (shown_count m shown) base next q (i ∷ trail) found leaves
decide_keeps_working f shown m base count next q trail found leaves i few w decided opens named fresh late same now = record {
  running = decide_keeps_running f shown base q trail found i w.running decided opens named fresh late;
  stuck = all_stuck_more shown (i ∷ []) trail found w.stuck;
  weights = elim (cases_Bool (seen shown i)) [
    | inl shows ↦ weighs_open shown (shown_count m shown) base q next leaves i trail (is_open_now shows) (rw (shows, decided) refl) (front_short m shown f (nat_abs i.lit) trail few w.running.steady shows fresh) now recounted
    | inr hides ↦ weighs_quiet shown (shown_count m shown) base q next leaves i trail (shut_hidden shown base i hides) (rw hides refl) recounted
  ];
}
  where
    recounted : weighs shown (shown_count m shown) base next q (weight (shown_count m shown) (front shown trail)) leaves trail ≡ true
    recounted = weighs_recount shown (shown_count m shown) base q f count next (weight (shown_count m shown) (front shown trail)) leaves trail w.running.steady (λ k high inside. same k inside) w.weights

    is_open_now : seen shown i ≡ true → is_open shown base i ≡ true
    is_open_now shows = and_from (is_decided i.kind && seen shown i) (nat_lt base i.level) (and_from (is_decided i.kind) (seen shown i) (ap is_decided decided) shows)
        (lt-ltb base i.level (let based = w.running.region.based in omega arith))
