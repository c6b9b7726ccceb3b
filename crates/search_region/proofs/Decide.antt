-- A decision.
use Rattle.std.proofs.Common.{◌≡◌, ℕ, suc, ◌<◌, Bool, true, false, nat_le, ℤ, List, ◌∷◌, refl, sym, ap, subst, arith, nat_abs}
use Rattle.std.proofs.lemmas.Bool.{and_parts, leb-true}
use Rattle.sat_terms.specs.Truth.{holds}
use Rattle.search_region.specs.Trail.{Item, Decided, depth, seen, chosen_upto, is_flipped, is_chosen, is_assigned}
use Rattle.search_region.specs.Steady.{FineKind, FineDecided, IsFull}
use Rattle.search_region.specs.Region.{front, Region}
use Rattle.search_region.proofs.Agree.{agree_more}
use Rattle.search_region.proofs.Cut.{cut_unflipped}
use Rattle.search_region.proofs.Root.{root_above}
use Rattle.search_region.specs.Running.{Running}

module _ (f : List (List ℤ)) (shown : ℕ → Bool) (base : ℕ) (p : List ℤ) where
  -- a decision keeps it
  pub region_decide : (i : Item) (trail : List Item) (found : List (List ℤ)) → Region f shown base p trail found → i.kind ≡ Decided → i.level ≡ suc (depth trail) → Region f shown base p (i ∷ trail) found
  region_decide i trail found r e l =
      let deep : depth (i ∷ trail) ≡ i.level = rw e refl in
      let based = r.based in
      record {
        based = omega arith;
        found_over = r.found_over;
        prefix_over = r.prefix_over;
        good = r.good;
        exact = λ t m. rw (cut_unflipped shown t i trail (ap is_flipped e)) (r.exact t m);
        below = λ t h. r.below t (subst (λ rest. holds t (front shown rest) ≡ true) (root_above base i trail (omega arith)) h);
        above = λ t h. agree_more (chosen_upto base) t i trail
            (λ c. let low = leb-true i.level base (and_parts (is_chosen i.kind) (nat_le i.level base) c).1 in absurd (omega arith))
            (r.above t h);
      }

  -- a decision; a hidden one only once each shown variable is assigned
  pub decide_keeps_running : (trail : List Item) (found : List (List ℤ)) (i : Item) → Running f shown base p trail found → i.kind ≡ Decided → i.level ≡ suc (depth trail) → 0 < nat_abs i.lit → is_assigned (nat_abs i.lit) trail ≡ false → (seen shown i ≡ false → IsFull shown trail) → Running f shown base p (i ∷ trail) found
  decide_keeps_running trail found i r e l named fresh late = record {
    steady = (
      record {
        named = named;
        fresh = fresh;
        kinds = subst (λ c. FineKind f shown c i trail) (sym e) (let fine : FineDecided shown i trail = record { opens = l; late = late } in fine);
      },
      r.steady,
    );
    region = region_decide i trail found r.region e l;
  }
