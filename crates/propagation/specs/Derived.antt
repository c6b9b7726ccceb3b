-- Propagation and the closure under unit propagation: what it appends is derived, and what it comes
-- to says whether the closure closes.
use Rattle.std.specs.Prelude.{◌≡◌, ℕ, true, List, ℤ}
use Rattle.std.specs.List.{All}
use Rattle.sat_terms.specs.Cubes.{has_literal}
use Rattle.sat_terms.specs.Literals.{IsLiteral}
use Rattle.unit_closure.specs.Closure.{InClosure, IsClosed, Closes}
use Rattle.chrono_trail.specs.declared.item.Item.{Item}
use Rattle.chrono_trail.specs.Items.{are_distinct}
use Rattle.chrono_trail.specs.Clauses.{is_true}
use Rattle.propagation.specs.Steps.{Propagates, IsFalseOf, AreAtRest}

-- Each literal on the trail is derived from a.
abbrev pub AreDerived : List (List ℤ) → List ℤ → List Item → Type 0
AreDerived clauses a items = (l : ℤ) → is_true items l ≡ true → InClosure clauses a l

-- Each literal of a is on the trail.
abbrev pub AreTrue : List ℤ → List Item → Type 0
AreTrue a items = (l : ℤ) → has_literal a l ≡ true → is_true items l ≡ true

-- What propagation appends to derived literals is derived.
abbrev pub PropagationDerives : Type 0
PropagationDerives = (clauses : List (List ℤ)) (a : List ℤ) (old new : List Item) →
    All (All IsLiteral) clauses → are_distinct new ≡ true → Propagates clauses old new →
    AreDerived clauses a old → AreDerived clauses a new

-- Where a clause is false under derived literals, the closure closes.
abbrev pub FalseClauseCloses : Type 0
FalseClauseCloses = (clauses : List (List ℤ)) (a : List ℤ) (items : List Item) (id : ℕ) →
    All (All IsLiteral) clauses → are_distinct items ≡ true → IsFalseOf clauses items id →
    AreDerived clauses a items → Closes clauses a

-- Where no clause is false or unit, the literals on the trail are a closed set.
abbrev pub RestIsClosed : Type 0
RestIsClosed = (clauses : List (List ℤ)) (a : List ℤ) (items : List Item) →
    AreAtRest clauses items → AreTrue a items → IsClosed clauses a (is_true items)

-- The closure then does not close.
abbrev pub RestStaysOpen : Type 0
RestStaysOpen = (clauses : List (List ℤ)) (a : List ℤ) (items : List Item) →
    AreAtRest clauses items → AreTrue a items → Closes clauses a → ⊥
