-- Cubes, and how two of them lie to each other.
use Rattle.std.specs.Prelude.{◌≡◌, ℕ, ◌<◌, ◌≤◌, Bool, true, false, ◌&&◌, nat_eq, nat_lt, List, [], ◌∷◌, length, take, slice_index_or, ℤ, pos, neg_ℤ, nat_abs}
use Rattle.std.specs.List.{list_any, list_all}
use Rattle.std.specs.Ordering.{int_eq}

-- The variables of the literals rise, from above n on.
abbrev pub rises_above : ℕ → List ℤ → Bool
rises_above n [] = true
rises_above n (l ∷ c) = nat_lt n (nat_abs l) && rises_above (nat_abs l) c

-- The variable v is one of p.
abbrev pub is_among : List ℕ → ℕ → Bool
is_among p v = list_any (nat_eq v) p

-- A cube over the variables p is a list of literals of these variables, whose variables rise.
pub record IsCube (p : List ℕ) (c : List ℤ) : Type 0 where
  pub rising : rises_above 0 c ≡ true
  pub over : list_all (λ l. is_among p (nat_abs l)) c ≡ true

-- The literal l is one of c.
abbrev pub has_literal : List ℤ → ℤ → Bool
has_literal c l = list_any (int_eq l) c

-- The clause holds a literal and its negation, so that each assignment meets it.
abbrev pub has_pair : List ℤ → Bool
has_pair c = list_any (λ l. has_literal c (neg_ℤ l)) c

-- Two cubes are apart where some literal of the first is negated in the second.
abbrev pub apart : List ℤ → List ℤ → Bool
apart c d = list_any (λ l. has_literal d (neg_ℤ l)) c

-- A cube is within another where it has each literal of the other.
abbrev pub within : List ℤ → List ℤ → Bool
within c d = list_all (has_literal c) d

-- The variable of the last literal, or n where there is none.
abbrev pub last_variable : ℕ → List ℤ → ℕ
last_variable n [] = n
last_variable n (l ∷ c) = last_variable (nat_abs l) c

-- The first k literals make a cube, and the next one has a variable that is not shown, or is 0.
pub record IsNotShownAt (p : List ℕ) (c : List ℤ) (k : ℕ) : Type 0 where
  pub inside : k < length c
  pub before : IsCube p (take k c)
  pub hidden : is_among p (nat_abs (slice_index_or c k (pos 0))) ≡ false

-- The first k literals make a cube, and the variable of the next one is shown, and isn't above that
-- of the one before.
pub record IsNotRisingAt (p : List ℕ) (c : List ℤ) (k : ℕ) : Type 0 where
  pub inside : k < length c
  pub before : IsCube p (take k c)
  pub shown : is_among p (nat_abs (slice_index_or c k (pos 0))) ≡ true
  pub falls : nat_abs (slice_index_or c k (pos 0)) ≤ last_variable 0 (take k c)
