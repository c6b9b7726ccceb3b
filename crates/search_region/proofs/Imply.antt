-- A literal that a clause implies.
use Rattle.std.proofs.Common.{◌≡◌, ℕ, suc, ◌<◌, ◌≤◌, Bool, true, false, nat_le, ℤ, List, [], ◌∷◌, refl, sym, ap, subst, inl, inr, arith, zero, nat_abs, length, get_or}
use Rattle.std.proofs.lemmas.Bool.{and_parts, both_ways}
use Rattle.sat_terms.specs.Truth.{sat, holds, sat_clause}
use Rattle.search_region.specs.Trail.{Item, Kind, Assumed, Decided, Flipped, Turned, Implied, depth, chosen_upto, is_decided, is_flipped, is_branch, is_chosen, is_assigned, is_reason}
use Rattle.search_region.specs.Steady.{FineKind, FineForced, Follows}
use Rattle.search_region.specs.Region.{front, root, Region}
use Rattle.search_region.proofs.Agree.{agree_more}
use Rattle.search_region.proofs.Cut.{cut_unflipped}
use Rattle.search_region.proofs.Root.{cases_le, front_older, root_whole, root_above}
use Rattle.search_region.specs.Running.{Running}

-- a clause of the formula follows from it
pub clause_follows : (f : List (List ℤ)) (k : ℕ) (d : List ℤ) → k < length f → Follows f (get_or f k d)
clause_follows [] k d h t m = absurd (omega arith)
clause_follows (c ∷ f) zero d h t m = (and_parts (sat_clause t c) (sat f t) m).0
clause_follows (c ∷ f) (suc k) d h t m = clause_follows f k d (omega arith) t (and_parts (sat_clause t c) (sat f t) m).1

module _ (f : List (List ℤ)) (shown : ℕ → Bool) (base : ℕ) (p : List ℤ) where
  -- a forced literal keeps it
  pub region_forced : (i : Item) (trail : List Item) (found : List (List ℤ)) → Region f shown base p trail found → is_branch i.kind ≡ false → Region f shown base p (i ∷ trail) found
  region_forced i trail found r e = record {
    based = rw flat r.based;
    found_over = r.found_over;
    prefix_over = r.prefix_over;
    good = r.good;
    exact = λ t m. rw (cut_unflipped shown t i trail unflipped) (r.exact t m);
    below = below;
    above = λ t h. agree_more (chosen_upto base) t i trail (λ c. absurd (both_ways (is_chosen i.kind) unchosen (and_parts (is_chosen i.kind) (nat_le i.level base) c).0)) (r.above t h);
  }
    where
      undecided : is_decided i.kind ≡ false
      undecided = by_kind i.kind e
        where
          by_kind : (c : Kind) → is_branch c ≡ false → is_decided c ≡ false
          by_kind Assumed h = refl
          by_kind Decided h = h
          by_kind Flipped h = refl
          by_kind (Turned w) h = refl
          by_kind (Implied w) h = refl

      unflipped : is_flipped i.kind ≡ false
      unflipped = by_kind i.kind e
        where
          by_kind : (c : Kind) → is_branch c ≡ false → is_flipped c ≡ false
          by_kind Assumed h = refl
          by_kind Decided h = refl
          by_kind Flipped h = h
          by_kind (Turned w) h = refl
          by_kind (Implied w) h = refl

      unchosen : is_chosen i.kind ≡ false
      unchosen = by_kind i.kind e
        where
          by_kind : (c : Kind) → is_branch c ≡ false → is_chosen c ≡ false
          by_kind Assumed h = h
          by_kind Decided h = h
          by_kind Flipped h = refl
          by_kind (Turned w) h = refl
          by_kind (Implied w) h = refl

      flat : depth (i ∷ trail) ≡ depth trail
      flat = rw undecided refl

      below : (t : ℕ → Bool) → holds t (front shown (root base (i ∷ trail))) ≡ true → holds t p ≡ true
      below t h = elim (cases_le (depth trail) base) [
        | inl low ↦ r.below t (rw (root_whole base trail low) (front_older shown t (i ∷ []) trail (subst (λ rest. holds t (front shown rest) ≡ true) (root_whole base (i ∷ trail) (rw flat low)) h)))
        | inr high ↦ r.below t (subst (λ rest. holds t (front shown rest) ≡ true) (root_above base i trail (rw flat high)) h)
      ]

  -- a literal that a clause implies
  pub imply_keeps_running : (trail : List Item) (found : List (List ℤ)) (i : Item) (c : List ℤ) → Running f shown base p trail found → i.kind ≡ Implied c → i.level ≤ depth trail → 0 < nat_abs i.lit → is_assigned (nat_abs i.lit) trail ≡ false → Follows f c → is_reason c i trail ≡ true → Running f shown base p (i ∷ trail) found
  imply_keeps_running trail found i c r e low named fresh follows reason = record {
    steady = (
      record {
        named = named;
        fresh = fresh;
        kinds = subst (λ k. FineKind f shown k i trail) (sym e) (let fine : FineForced f c i trail = record { bound = low; follows = follows; reason = reason } in fine);
      },
      r.steady,
    );
    region = region_forced i trail found r.region (ap is_branch e);
  }
