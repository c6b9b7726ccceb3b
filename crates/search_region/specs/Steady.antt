-- What holds of each item of a trail, looked at with the items older than it.
use Rattle.std.specs.Prelude.{◌≡◌, ℕ, suc, ◌<◌, ◌≤◌, Bool, true, false, ℤ, nat_abs, List, [], ◌∷◌}
use Rattle.sat_terms.specs.Literals.{lit_true}
use Rattle.sat_terms.specs.Truth.{sat_clause, sat}
use Rattle.search_region.specs.Trail.{Kind, Assumed, Decided, Flipped, Turned, Implied, Item, depth, is_assigned, seen, is_reason, agrees, branches}

-- The clause is true wherever the formula is.
abbrev pub Follows : List (List ℤ) → List ℤ → Type 0
Follows f c = (t : ℕ → Bool) → sat f t ≡ true → sat_clause t c ≡ true

-- Each shown variable is assigned.
abbrev pub IsFull : (ℕ → Bool) → List Item → Type 0
IsFull shown trail = (v : ℕ) → shown v ≡ true → is_assigned v trail ≡ true

-- No solution that makes the older items without a clause true makes this one false.
abbrev pub NoneBeside : List (List ℤ) → Item → List Item → Type 0
NoneBeside f i older =
    (t : ℕ → Bool) → sat f t ≡ true → agrees branches t older ≡ true →
    lit_true t i.lit ≡ true

-- An assumed literal is shown, of level 0, and older than each decision.
pub record FineAssumed (shown : ℕ → Bool) (i : Item) (older : List Item) : Type 0 where
  pub lowest : i.level ≡ 0
  pub first : depth older ≡ 0
  pub over : seen shown i ≡ true

-- A decision opens a new level. A hidden one comes only once each shown variable is assigned.
pub record FineDecided (shown : ℕ → Bool) (i : Item) (older : List Item) : Type 0 where
  pub opens : i.level ≡ suc (depth older)
  pub late : seen shown i ≡ false → IsFull shown older

-- A flipped literal is of the current level. Beside a hidden one nothing is left to find.
pub record FineFlipped (f : List (List ℤ)) (shown : ℕ → Bool) (i : Item)
    (older : List Item) : Type 0 where
  pub stays : i.level ≡ depth older
  pub late : seen shown i ≡ false → IsFull shown older
  pub spent : seen shown i ≡ false → NoneBeside f i older

-- A forced literal is of at most the current level, and has a clause that follows from the formula
-- as its reason.
pub record FineForced (f : List (List ℤ)) (c : List ℤ) (i : Item)
    (older : List Item) : Type 0 where
  pub bound : i.level ≤ depth older
  pub follows : Follows f c
  pub reason : is_reason c i older ≡ true

-- What holds of an item by its kind.
abbrev pub FineKind : List (List ℤ) → (ℕ → Bool) → Kind → Item → List Item → Type 0
FineKind f shown Assumed i older = FineAssumed shown i older
FineKind f shown Decided i older = FineDecided shown i older
FineKind f shown Flipped i older = FineFlipped f shown i older
FineKind f shown (Turned c) i older = FineForced f c i older
FineKind f shown (Implied c) i older = FineForced f c i older

-- An item is a literal of a variable that wasn't assigned before, and fine by its kind.
pub record Fine (f : List (List ℤ)) (shown : ℕ → Bool) (i : Item)
    (older : List Item) : Type 0 where
  pub named : 0 < nat_abs i.lit
  pub fresh : is_assigned (nat_abs i.lit) older ≡ false
  pub kinds : FineKind f shown i.kind i older

-- Each item of the trail is fine.
abbrev pub Steady : List (List ℤ) → (ℕ → Bool) → List Item → Type 0
Steady f shown [] = Unit {0}
Steady f shown (i ∷ older) = Fine f shown i older × Steady f shown older
