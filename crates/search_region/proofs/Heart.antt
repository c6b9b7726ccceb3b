-- What a solution that follows the choices of a trail must do: it agrees with the trail, or it leaves it at a shown flipped literal.
use Rattle.std.proofs.Common.{◌≡◌, ℕ, ◌≤◌, Bool, true, false, not, ◌&&◌, nat_le, ℤ, List, [], ◌∷◌, refl, ap, ◌∙◌, inl, inr, arith}
use Rattle.std.specs.List.{list_all}
use Rattle.std.proofs.lemmas.Bool.{and_from, or_parts, both_ways, true_from_ne_false, not_from_false, cases_Bool, le-leb, leb-true}
use Rattle.sat_terms.specs.Literals.{lit_true}
use Rattle.sat_terms.specs.Truth.{sat, sat_clause}
use Rattle.search_region.specs.Trail.{Item, Kind, Assumed, Decided, Flipped, Turned, Implied, depth, agrees, upto, chosen_upto, branches, seen, false_by, is_flipped, is_chosen}
use Rattle.search_region.specs.Steady.{Steady, Fine, FineKind, FineForced, FineFlipped, Follows}
use Rattle.search_region.specs.Region.{cut, leaves_at}
use Rattle.search_region.proofs.Agree.{agree_head, agree_tail, agree_more, agree_fewer, agree_all, reason_literal, false_clause}

module _ (f : List (List ℤ)) (shown : ℕ → Bool) where
  -- a forced literal is true in each solution that agrees with the older items up to its level
  pub forced_true : (k : ℕ) (c : List ℤ) (t : ℕ → Bool) (i : Item) (older : List Item) → FineForced f c i older → Steady f shown older → i.level ≤ k → sat f t ≡ true → agrees (upto k) t older ≡ true → lit_true t i.lit ≡ true
  forced_true k c t i older h s low m a =
      reason_literal f shown i.level t i.lit older s
      (agree_fewer (upto k) (upto i.level) (λ j e. le-leb j.level k (let e1 = leb-true j.level i.level e in omega arith)) t older a)
      c (h.follows t m) h.reason

  -- a flipped literal is true in each solution that agrees with all older items and doesn't leave here
  pub flipped_true : (t : ℕ → Bool) (i : Item) (older : List Item) → i.kind ≡ Flipped → FineFlipped f shown i older → Steady f shown older → sat f t ≡ true → agrees (upto (depth older)) t older ≡ true → leaves_at shown t i older ≡ false → lit_true t i.lit ≡ true
  flipped_true t i older e h s m a stays =
      elim (cases_Bool (seen shown i)) [
        | inl shows ↦ true_from_ne_false (lit_true t i.lit) λ wrong.
            both_ways (leaves_at shown t i older) stays
            (and_from (is_flipped i.kind && seen shown i) (not (lit_true t i.lit) && agrees (seen shown) t older)
            (and_from (is_flipped i.kind) (seen shown i) (rw e refl) shows)
            (and_from (not (lit_true t i.lit)) (agrees (seen shown) t older) (not_from_false (lit_true t i.lit) wrong)
            (agree_all f shown (depth older) (seen shown) t older s (omega arith) a)))
        | inr hides ↦ h.spent hides t m (agree_all f shown (depth older) branches t older s (omega arith) a)
      ]

  -- one item of it
  heart_step : (k : ℕ) (t : ℕ → Bool) (i : Item) (older : List Item) → Fine f shown i older → Steady f shown older → sat f t ≡ true → agrees (chosen_upto k) t (i ∷ older) ≡ true → leaves_at shown t i older ≡ false → agrees (upto k) t older ≡ true → upto k i ≡ true → lit_true t i.lit ≡ true
  heart_step k t i older fine s m a stays before low = by_kind i.kind refl fine.kinds
    where
      chosen : (d : Kind) → i.kind ≡ d → is_chosen d ≡ true → lit_true t i.lit ≡ true
      chosen d e c = agree_head (chosen_upto k) t i older a (and_from (is_chosen i.kind) (nat_le i.level k) (ap is_chosen e ∙ c) low)

      by_kind : (d : Kind) → i.kind ≡ d → FineKind f shown d i older → lit_true t i.lit ≡ true
      by_kind Assumed e h = chosen Assumed e refl
      by_kind Decided e h = chosen Decided e refl
      by_kind Flipped e h =
          flipped_true t i older e h s m
          (agree_fewer (upto k) (upto (depth older)) (λ j b. le-leb j.level k (let b1 = leb-true j.level (depth older) b in let stays1 = h.stays in let low1 = leb-true i.level k low in omega arith)) t older before)
          stays
      by_kind (Turned c) e h = forced_true k c t i older h s (leb-true i.level k low) m before
      by_kind (Implied c) e h = forced_true k c t i older h s (leb-true i.level k low) m before

  pub heart : (k : ℕ) (t : ℕ → Bool) (trail : List Item) → Steady f shown trail → sat f t ≡ true → agrees (chosen_upto k) t trail ≡ true → cut shown t trail ≡ false → agrees (upto k) t trail ≡ true
  heart k t [] s m a stays = refl
  heart k t (i ∷ older) s m a stays =
      let parts = or_parts (cut shown t older) (leaves_at shown t i older) stays in
      let before = heart k t older s.1 m (agree_tail (chosen_upto k) t i older a) parts.0 in
      agree_more (upto k) t i older (heart_step k t i older s.0 s.1 m a parts.1 before) before

  -- a false clause that follows: no solution follows the choices up to its level, but one that left before
  pub conflict : (k : ℕ) (c : List ℤ) (t : ℕ → Bool) (trail : List Item) → Steady f shown trail → Follows f c → list_all (false_by k trail) c ≡ true → sat f t ≡ true → agrees (chosen_upto k) t trail ≡ true → cut shown t trail ≡ false → ⊥
  conflict k c t trail s follows wrong m a stays =
      both_ways (sat_clause t c) (false_clause f shown k t trail s (heart k t trail s m a stays) c wrong) (follows t m)
