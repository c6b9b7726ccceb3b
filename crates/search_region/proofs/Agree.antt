-- An assignment that agrees with part of a trail.
use Rattle.std.proofs.Common.{◌≡◌, ℕ, ◌≤◌, Bool, true, false, not, ◌&&◌, ◌||◌, nat_le, ℤ, neg_ℤ, List, [], ◌∷◌, refl, sym, ap, ◌∙◌, inl, inr, arith}
use Rattle.std.specs.List.{list_all}
use Rattle.std.specs.Ordering.{int_eq}
use Rattle.std.proofs.lemmas.Bool.{and_parts, and_from, or_cases, or_left, or_right, or_from, both_ways, not-true, cases_Bool, le-leb}
use Rattle.sat_terms.specs.Literals.{lit_true}
use Rattle.sat_terms.specs.Truth.{sat_clause}
use Rattle.search_region.specs.Trail.{Item, Kind, Assumed, Decided, Flipped, Turned, Implied, depth, agrees, upto, false_by}
use Rattle.search_region.specs.Steady.{Steady, Fine, FineKind}
use Rattle.sat_terms.proofs.Disjoint.{lit_true-neg}
use Rattle.sat_terms.proofs.CubeLemmas.{int_eq-true}

-- a picked literal of the trail's newest item is true
pub agree_head : (pick : Item → Bool) (t : ℕ → Bool) (i : Item) (older : List Item) → agrees pick t (i ∷ older) ≡ true → pick i ≡ true → lit_true t i.lit ≡ true
agree_head pick t i older a h =
    elim (or_cases (not (pick i)) (lit_true t i.lit) (and_parts (not (pick i) || lit_true t i.lit) (agrees pick t older) a).0) [
      | inl e ↦ absurd (both_ways (pick i) (not-true (pick i) e) h)
      | inr e ↦ e
    ]

pub agree_tail : (pick : Item → Bool) (t : ℕ → Bool) (i : Item) (older : List Item) → agrees pick t (i ∷ older) ≡ true → agrees pick t older ≡ true
agree_tail pick t i older a = (and_parts (not (pick i) || lit_true t i.lit) (agrees pick t older) a).1

pub agree_more : (pick : Item → Bool) (t : ℕ → Bool) (i : Item) (older : List Item) → (pick i ≡ true → lit_true t i.lit ≡ true) → agrees pick t older ≡ true → agrees pick t (i ∷ older) ≡ true
agree_more pick t i older h a =
    and_from (not (pick i) || lit_true t i.lit) (agrees pick t older)
    (elim (cases_Bool (pick i)) [
      | inl e ↦ or_right (not (pick i)) (lit_true t i.lit) (h e)
      | inr e ↦ or_left (not (pick i)) (lit_true t i.lit) (rw e refl)
    ])
    a

-- items that pass p: what is picked of them is among what the assignment agrees with
pub agree_among : (p more pick : Item → Bool) → ((i : Item) → p i ≡ true → pick i ≡ true → more i ≡ true) → (t : ℕ → Bool) (trail : List Item) → list_all p trail ≡ true → agrees more t trail ≡ true → agrees pick t trail ≡ true
agree_among p more pick h t [] e a = refl
agree_among p more pick h t (i ∷ older) e a =
    let (now, rest) = and_parts (p i) (list_all p older) e in
    agree_more pick t i older (λ b. agree_head more t i older a (h i now b)) (agree_among p more pick h t older rest (agree_tail more t i older a))

pub agree_fewer : (more pick : Item → Bool) → ((i : Item) → pick i ≡ true → more i ≡ true) → (t : ℕ → Bool) (trail : List Item) → agrees more t trail ≡ true → agrees pick t trail ≡ true
agree_fewer more pick h t [] a = refl
agree_fewer more pick h t (i ∷ older) a =
    agree_more pick t i older (λ b. agree_head more t i older a (h i b)) (agree_fewer more pick h t older (agree_tail more t i older a))

module _ (f : List (List ℤ)) (shown : ℕ → Bool) where
  -- an item's level is at most the level that is current with it, and that falls along no item
  pub level_bound : (i : Item) (older : List Item) → Fine f shown i older → (i.level ≤ depth (i ∷ older)) × (depth older ≤ depth (i ∷ older))
  level_bound i older h = by_kind i.kind refl h.kinds
    where
      by_kind : (d : Kind) → i.kind ≡ d → FineKind f shown d i older → (i.level ≤ depth (i ∷ older)) × (depth older ≤ depth (i ∷ older))
      by_kind Assumed e k = let low = k.lowest in rw e (omega arith, omega arith)
      by_kind Decided e k = let opens = k.opens in rw e (omega arith, omega arith)
      by_kind Flipped e k = let stays = k.stays in rw e (omega arith, omega arith)
      by_kind (Turned c) e k = let bound = k.bound in rw e (omega arith, omega arith)
      by_kind (Implied c) e k = let bound = k.bound in rw e (omega arith, omega arith)

  -- no item is of a level above the current one
  pub levels_within : (k : ℕ) (trail : List Item) → Steady f shown trail → depth trail ≤ k → list_all (upto k) trail ≡ true
  levels_within k [] s h = refl
  levels_within k (i ∷ older) s h =
      let bounds = level_bound i older s.0 in
      let low = bounds.0 in
      let old = bounds.1 in
      and_from (upto k i) (list_all (upto k) older) (le-leb i.level k (omega arith)) (levels_within k older s.1 (omega arith))

  -- so an assignment that agrees up to the current level agrees with each item
  pub agree_all : (k : ℕ) (pick : Item → Bool) (t : ℕ → Bool) (trail : List Item) → Steady f shown trail → depth trail ≤ k → agrees (upto k) t trail ≡ true → agrees pick t trail ≡ true
  agree_all k pick t trail s h a = agree_among (upto k) (upto k) pick (λ i e b. e) t trail (levels_within k trail s h) a

  -- a literal that is false on the trail is false in an assignment that agrees with it
  pub false_literal : (k : ℕ) (t : ℕ → Bool) (l : ℤ) (trail : List Item) → Steady f shown trail → agrees (upto k) t trail ≡ true → false_by k trail l ≡ true → lit_true t l ≡ false
  false_literal k t l [] s a h = cc
  false_literal k t l (i ∷ older) s a h =
      elim (or_cases (int_eq l (neg_ℤ i.lit) && nat_le i.level k) (false_by k older l) h) [
        | inl e ↦
            let (same, low) = and_parts (int_eq l (neg_ℤ i.lit)) (nat_le i.level k) e in
            ap (lit_true t) (int_eq-true l (neg_ℤ i.lit) same) ∙ lit_true-neg t i.lit s.0.named ∙ ap not (agree_head (upto k) t i older a low)
        | inr e ↦ false_literal k t l older s.1 (agree_tail (upto k) t i older a) e
      ]

  -- a clause that is true, and false on the trail but for one literal, makes this one true
  pub reason_literal : (k : ℕ) (t : ℕ → Bool) (x : ℤ) (older : List Item) → Steady f shown older → agrees (upto k) t older ≡ true → (c : List ℤ) → sat_clause t c ≡ true → list_all (λ l. int_eq l x || false_by k older l) c ≡ true → lit_true t x ≡ true
  reason_literal k t x older s a [] h r = cc
  reason_literal k t x older s a (l ∷ c) h r =
      let (now, rest) = and_parts (int_eq l x || false_by k older l) (list_all (λ m. int_eq m x || false_by k older m) c) r in
      elim (or_cases (lit_true t l) (sat_clause t c) h) [
        | inl e ↦ elim (or_cases (int_eq l x) (false_by k older l) now) [
          | inl same ↦ ap (lit_true t) (sym (int_eq-true l x same)) ∙ e
          | inr wrong ↦ absurd (both_ways (lit_true t l) (false_literal k t l older s a wrong) e)
        ]
        | inr e ↦ reason_literal k t x older s a c e rest
      ]

  -- a clause all of whose literals are false on the trail is false in an assignment that agrees with it
  pub false_clause : (k : ℕ) (t : ℕ → Bool) (trail : List Item) → Steady f shown trail → agrees (upto k) t trail ≡ true → (c : List ℤ) → list_all (false_by k trail) c ≡ true → sat_clause t c ≡ false
  false_clause k t trail s a [] h = refl
  false_clause k t trail s a (l ∷ c) h =
      let (now, rest) = and_parts (false_by k trail l) (list_all (false_by k trail) c) h in
      or_from (lit_true t l) (sat_clause t c) (false_literal k t l trail s a now) (false_clause k t trail s a c rest)
