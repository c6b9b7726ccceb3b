-- The laws of unit propagation.
use Rattle.std.specs.Prelude.{◌≡◌, ◌≢◌, ℕ, Bool, true, false, List, ℤ, neg_ℤ}
use Rattle.std.specs.List.{Contains}
use Rattle.sat_terms.specs.Literals.{lit_true}
use Rattle.sat_terms.specs.Truth.{sat, holds}
use Rattle.sat_terms.specs.Cubes.{has_literal}
use Rattle.sat_terms.specs.Cubes.{has_pair}
use Rattle.unit_closure.specs.Closure.{InClosure, Closes}

-- The closure holds the literals that it starts from.
abbrev pub HoldsTheStart : Type 0
HoldsTheStart =
    (g : List (List ℤ)) (a : List ℤ) (l : ℤ) → has_literal a l ≡ true → InClosure g a l

-- It holds the literal l of a clause without a pair whose other literals are negated in it.
abbrev pub HoldsUnits : Type 0
HoldsUnits =
    (g : List (List ℤ)) (a c : List ℤ) (l : ℤ) → Contains g c → has_pair c ≡ false →
    has_literal c l ≡ true →
    ((m : ℤ) → has_literal c m ≡ true → m ≢ l → InClosure g a (neg_ℤ m)) →
    InClosure g a l

-- Each clause of g is one of h.
abbrev pub ArePart : List (List ℤ) → List (List ℤ) → Type 0
ArePart g h = (c : List ℤ) → Contains g c → Contains h c

-- Each literal of a is one of b.
abbrev pub AreAmong : List ℤ → List ℤ → Type 0
AreAmong a b = (l : ℤ) → has_literal a l ≡ true → has_literal b l ≡ true

-- More clauses and more literals derive more.
abbrev pub GrowsAlong : Type 0
GrowsAlong =
    (g h : List (List ℤ)) (a b : List ℤ) → ArePart g h → AreAmong a b → (l : ℤ) →
    InClosure g a l → InClosure h b l

-- They close where fewer did.
abbrev pub ClosesAlong : Type 0
ClosesAlong =
    (g h : List (List ℤ)) (a b : List ℤ) → ArePart g h → AreAmong a b → Closes g a →
    Closes h b

-- What is derived is true under every satisfying assignment that makes the start true.
abbrev pub DerivesWhatFollows : Type 0
DerivesWhatFollows =
    (g : List (List ℤ)) (a : List ℤ) (l : ℤ) → InClosure g a l → (t : ℕ → Bool) →
    sat g t ≡ true → holds t a ≡ true → lit_true t l ≡ true

-- Where the propagation closes, no satisfying assignment makes the start true.
abbrev pub ClosesWhereNoneIsLeft : Type 0
ClosesWhereNoneIsLeft =
    (g : List (List ℤ)) (a : List ℤ) → Closes g a → (t : ℕ → Bool) →
    sat g t ≡ true → holds t a ≡ true → ⊥
