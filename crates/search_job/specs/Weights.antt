-- How many projected assignments a cube or a prefix holds, and that the leaves are paid for by it.
use Rattle.std.specs.Prelude.{◌≡◌, ℕ, zero, suc, ◌+◌, ◌-◌, ◌^◌, ◌<◌, ◌≤◌, Bool, true, not, ◌&&◌, cond, nat_le, ℤ, neg_ℤ, List, [], ◌∷◌, ◌++◌, length}
use Rattle.search_region.specs.Trail.{Item, is_assigned}
use Rattle.search_region.specs.Cubes.{Fits}
use Rattle.search_region.specs.Region.{front, is_open}

-- The weight of a cube over n shown variables: how many projected assignments lie in it.
abbrev pub weight : ℕ → List ℤ → ℕ
weight n c = 2 ^ (n - length c)

abbrev pub weights : ℕ → List (List ℤ) → ℕ
weights n [] = zero
weights n (c ∷ cs) = weight n c + weights n cs

-- How many of the variables 1 to m are shown and unassigned.
abbrev pub shown_free : ℕ → (ℕ → Bool) → List Item → ℕ
shown_free zero shown trail = zero
shown_free (suc m) shown trail =
    shown_free m shown trail + cond (shown (suc m) && not (is_assigned (suc m) trail)) 1 0

-- How many of the variables 1 to m are shown.
abbrev pub shown_count : ℕ → (ℕ → Bool) → ℕ
shown_count m shown = shown_free m shown []

-- The shown variables are some of 1 to m.
abbrev pub AreShownUpto : ℕ → (ℕ → Bool) → Type 0
AreShownUpto m shown = (v : ℕ) → shown v ≡ true → (0 < v) × (v ≤ m)

-- The leaves are paid for. A leaf takes at least one assignment from what was left open, so at each
-- open decision what is left open from there on (the other side of the decision, what weighs w
-- below it) and the leaves since it was made are no more than the prefix before it held. Here
-- `count k` is the number of leaves when the decision of level k was made, and `now` that of now.
abbrev pub weighs : (ℕ → Bool) → ℕ → ℕ → (ℕ → ℕ) → List ℤ →
    ℕ → ℕ → List Item → Bool
weighs shown n base count p w now [] = nat_le (w + now) (weight n p)
weighs shown n base count p w now (i ∷ older) =
    cond (is_open shown base i)
    (nat_le
    (weight n (front shown older ++ neg_ℤ i.lit ∷ []) + w + now)
    (weight n (front shown older) + count i.level)
    && (nat_le (count i.level) now
    && weighs shown n base count p (weight n (front shown older)) (count i.level) older))
    (weighs shown n base count p w now older)

-- Cubes found and prefixes left open fit p, and with a weight of one for each leaf they are no more
-- than p holds.
pub record FitsWeighed (f : List (List ℤ)) (shown : ℕ → Bool) (n : ℕ) (p : List ℤ)
    (found left : List (List ℤ)) (leaves : ℕ) : Type 0 where
  pub fits : Fits f shown p found left
  pub weighs : weights n left + leaves ≤ weight n p
