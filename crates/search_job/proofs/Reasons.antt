-- Each literal of a steady trail that stands by a clause has it as its reason.
use Rattle.std.proofs.Common.{◌≡◌, ℕ, Bool, true, List, [], ◌∷◌, ℤ, refl}
use Rattle.std.proofs.lemmas.Bool.{and_from}
use Rattle.search_region.specs.Trail.{Kind, Assumed, Decided, Flipped, Turned, Implied, Item}
use Rattle.search_region.specs.Steady.{Steady, FineKind}
use Rattle.search_job.specs.Reasons.{has_reason, are_reasoned}

module _ (f : List (List ℤ)) (shown : ℕ → Bool) where
  pub steady_is_reasoned : (trail : List Item) → Steady f shown trail → are_reasoned trail ≡ true
  steady_is_reasoned [] s = refl
  steady_is_reasoned (i ∷ older) s = and_from (has_reason i.kind i older) (are_reasoned older) (by_kind i.kind s.0.kinds) (steady_is_reasoned older s.1)
    where
      by_kind : (k : Kind) → FineKind f shown k i older → has_reason k i older ≡ true
      by_kind Assumed h = refl
      by_kind Decided h = refl
      by_kind Flipped h = refl
      by_kind (Turned c) h = h.reason
      by_kind (Implied c) h = h.reason
