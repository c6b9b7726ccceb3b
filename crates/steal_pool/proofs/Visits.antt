-- The visits of a thief, as it goes from one deque to the next.
use Rattle.std.proofs.Common.{◌≡◌, ℕ, ◌+◌, ◌<◌, List, [], ◌∷◌, set, get_or, length, Some, option_map, sym, ap, ◌∙◌, subst}
use Rattle.std.specs.List.{slice_get}
use Rattle.std.specs.declared.alloc.Global.{Global}
use Rattle.std.proofs.lemmas.List.{map-set}
use Rattle.std.proofs.Math.ListN.{get_or-map}
use Rattle.std.proofs.Math.Seq.{map-set_same}
use Rattle.std.proofs.lemmas.Option.{slice_get-get_or, slice_get-map, get_or_from_slice_get}
use borrow.Author.Count.{below_more}
use Rattle.atomic_blocks.specs.Lent.{RowsId}
use Rattle.crossbeam_deque.specs.Handles.{view, stealer_deque}
use Rattle.prefix_jobs.specs.declared.number.Token.{Token}
use Rattle.steal_pool.specs.declared.other.Other.{Other}
use Rattle.steal_pool.specs.Stealing.{Visit, visit_of, visits_of, StealsFrom}

module _ {V P : Type 0} where
  visit_at : (os : List (Other V P)) (k : ℕ) (d : Other V P) → k < length os →
      slice_get (visits_of os) k ≡ Some (visit_of (get_or os k d))
  visit_at os k d below =
      slice_get-map visit_of os k ∙ ap (option_map visit_of) (slice_get-get_or os k d below)

  -- Where the visits are the same, so is what the pass at one place knows.
  hand_at : (os is : List (Other V P)) (k : ℕ) (d e : Other V P) → visits_of os ≡ visits_of is →
      k < length os → view (get_or os k d).pass ≡ view (get_or is k e).pass
  hand_at os is k d e same below =
      ap (λ (v : Visit V). v.hand)
      (sym (get_or_from_slice_get (visits_of os) k (visit_of (get_or os k d)) (visit_of e)
      (visit_at os k d below))
      ∙ ap (λ vs. get_or vs k (visit_of e)) same
      ∙ get_or-map visit_of is k e)

  -- A token that is taken at the place k is stolen.
  pub stolen : (then : V → List Token → V → Type 0) (t : Token) (os is : List (Other V P)) (k : ℕ)
      (d o : Other V P) → visits_of os ≡ visits_of is → k < length os →
      stealer_deque o.deque ≡ stealer_deque (get_or os k d).deque →
      then (view (get_or os k d).pass) (t ∷ []) (view o.pass) →
      StealsFrom then t (visits_of is) (visits_of (set os k o))
  stolen then t os is k d o same below deque took =
      let made : RowsId × Global → Visit V = λ q. record { deque = q.0; hand = view o.pass } in
      record {
        place = k;
        visit = visit_of (get_or os k d);
        hand = view o.pass;
        was = subst (λ vs. slice_get vs k ≡ Some (visit_of (get_or os k d))) same
            (visit_at os k d below);
        now = map-set visit_of os k o ∙ ap (λ vs. set vs k (visit_of o)) same
            ∙ ap (λ q. set (visits_of is) k (made q)) deque;
        took = took;
      }

  -- Where nothing is taken at the place k, the visits stay.
  pub kept : (os is : List (Other V P)) (k : ℕ) (d o : Other V P) → visits_of os ≡ visits_of is →
      stealer_deque o.deque ≡ stealer_deque (get_or os k d).deque →
      view o.pass ≡ view (get_or os k d).pass → visits_of (set os k o) ≡ visits_of is
  kept os is k d o same deque hand =
      let Made : (RowsId × Global) × V → Visit V = λ q. record { deque = q.0.0; hand = q.1 } in
      map-set_same visit_of os k o d (λ i. Made (deque i, hand i)) ∙ same

  -- What was learned at the places below k, and at the place k, is learned below the next.
  pub learned : (E : V → Type 0) (os is : List (Other V P)) (k : ℕ) (d : Other V P) →
      visits_of os ≡ visits_of is → k < length os →
      ((j : ℕ) (e : Other V P) → j < k → E (view (get_or is j e).pass)) →
      E (view (get_or os k d).pass) →
      (j : ℕ) (e : Other V P) → j < k + 1 → E (view (get_or is j e).pass)
  learned E os is k d same below before here j e less =
      below_more (λ n. (c : Other V P) → E (view (get_or is n c).pass)) k
      (λ n l c. before n c l)
      (λ c. subst E (hand_at os is k d c same below) here) j less e
