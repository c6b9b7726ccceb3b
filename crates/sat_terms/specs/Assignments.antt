-- Projected assignments, and which of them are good.
use Rattle.std.specs.Prelude.{◌≡◌, ℕ, Bool, true, false, cond, nat_eq, List, [], ◌∷◌, map, ℤ}
use Rattle.sat_terms.specs.Truth.{sat, holds}

-- A projected assignment is the list a of the values of the shown variables p, in their order.
-- This is the total assignment with these values; the other variables are false in it.
abbrev pub assignment_of : List ℕ → List Bool → ℕ → Bool
assignment_of [] a v = false
assignment_of (q ∷ p) [] v = false
assignment_of (q ∷ p) (b ∷ a) v = cond (nat_eq v q) b (assignment_of p a v)

-- A projected assignment lies in a cube where each literal of the cube is true under it.
abbrev pub lies_in : List ℕ → List Bool → List ℤ → Bool
lies_in p a c = holds (assignment_of p a) c

-- A projected assignment is good where some model of the formula has these values at the shown
-- variables.
pub record IsGood (f : List (List ℤ)) (p : List ℕ) (a : List Bool) : Type 0 where
  pub model : ℕ → Bool
  pub meets : sat f model ≡ true
  pub projects : map model p ≡ a
