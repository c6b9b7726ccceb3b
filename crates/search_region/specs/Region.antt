-- What a search has found, and what it has left open, by where an assignment leaves the trail.
use Rattle.std.specs.Prelude.{◌≡◌, ℕ, ◌<◌, ◌≤◌, Bool, true, false, not, ◌&&◌, ◌||◌, cond, ℤ, neg_ℤ, List, [], ◌∷◌, ◌++◌, nat_le, nat_lt}
use Rattle.std.specs.List.{list_all}
use Rattle.sat_terms.specs.Literals.{lit_true}
use Rattle.sat_terms.specs.Truth.{sat, holds}
use Rattle.search_region.specs.Trail.{Item, is_flipped, is_decided, is_implied, depth, seen, agrees, chosen_upto}
use Rattle.search_region.specs.Cubes.{hit, hits, Good, over}

-- The item is a shown flipped one, and the first shown one that is false in the assignment.
abbrev pub leaves_at : (ℕ → Bool) → (ℕ → Bool) → Item → List Item → Bool
leaves_at shown t i older =
    (is_flipped i.kind && seen shown i) && (not (lit_true t i.lit) && agrees (seen shown) t older)

-- The first shown item that is false in the assignment is a flipped one: the search has been there.
abbrev pub cut : (ℕ → Bool) → (ℕ → Bool) → List Item → Bool
cut shown t [] = false
cut shown t (i ∷ older) = cut shown t older || leaves_at shown t i older

-- The shown literals of the trail that aren't implied, oldest first. This is the prefix that the
-- search is in.
abbrev pub front : (ℕ → Bool) → List Item → List ℤ
front shown [] = []
front shown (i ∷ older) =
    cond (seen shown i && not (is_implied i.kind))
    (front shown older ++ i.lit ∷ [])
    (front shown older)

-- The oldest part of the trail, up to the decisions of the base level.
abbrev pub root : ℕ → List Item → List Item
root base [] = []
root base (i ∷ older) = cond (nat_le (depth (i ∷ older)) base) (i ∷ older) (root base older)

-- A shown decision above the base: its other side is still to be tried.
abbrev pub is_open : (ℕ → Bool) → ℕ → Item → Bool
is_open shown base i = (is_decided i.kind && seen shown i) && nat_lt base i.level

-- The prefixes still to be tried, in the order of the trail: for each open decision what stands
-- before it, and its negation.
abbrev pub untried : (ℕ → Bool) → ℕ → List Item → List (List ℤ)
untried shown base [] = []
untried shown base (i ∷ older) =
    cond (is_open shown base i)
    (untried shown base older ++ (front shown older ++ neg_ℤ i.lit ∷ []) ∷ [])
    (untried shown base older)

-- All that is left open: the prefixes still to be tried, and the one that the search is in.
abbrev pub left_open : (ℕ → Bool) → ℕ → List Item → List (List ℤ)
left_open shown base trail = untried shown base trail ++ front shown trail ∷ []

-- The search of the prefix p: the cubes found hold good assignments alone, and each solution in p
-- is found, once, just where the trail has left it behind.
pub record Region (f : List (List ℤ)) (shown : ℕ → Bool) (base : ℕ) (p : List ℤ)
    (trail : List Item) (found : List (List ℤ)) : Type 0 where
  pub based : base ≤ depth trail
  pub found_over : list_all (over shown) found ≡ true
  pub prefix_over : over shown p ≡ true
  pub good : (t : ℕ → Bool) → 0 < hits t found → Good f shown t
  pub exact : (t : ℕ → Bool) → sat f t ≡ true →
      hits t found ≡ cond (holds t p && cut shown t trail) 1 0
  pub below : (t : ℕ → Bool) → holds t (front shown (root base trail)) ≡ true →
      holds t p ≡ true
  pub above : (t : ℕ → Bool) → holds t p ≡ true →
      agrees (chosen_upto base) t trail ≡ true

-- The search of p is done: each solution in p is found, once.
pub record Closed (f : List (List ℤ)) (shown : ℕ → Bool) (p : List ℤ)
    (found : List (List ℤ)) : Type 0 where
  pub found_over : list_all (over shown) found ≡ true
  pub prefix_over : over shown p ≡ true
  pub good : (t : ℕ → Bool) → 0 < hits t found → Good f shown t
  pub exact : (t : ℕ → Bool) → sat f t ≡ true → hits t found ≡ hit t p
