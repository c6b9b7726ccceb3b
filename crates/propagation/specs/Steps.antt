-- The steps of propagation, and what it comes to.
use Rattle.std.specs.Prelude.{◌≡◌, ℕ, ◌<◌, true, false, List, [], ◌∷◌, ◌++◌, length, slice_index_or, ℤ}
use Rattle.chrono_trail.specs.declared.item.Kind.TheVariants.{Implied}
use Rattle.chrono_trail.specs.declared.item.Item.{Item}
use Rattle.chrono_trail.specs.Trails.{TrailView}
use Rattle.chrono_trail.specs.Clauses.{is_false_clause, IsUnit, rest_level}
use Rattle.propagation.specs.declared.propagator.Propagated.{Propagated}
use Rattle.propagation.specs.declared.propagator.Propagated.TheVariants.{Quiet, Conflict}
use Rattle.chrono_trail.specs.Clauses.{IsAtRest}

-- The item is implied by a clause that is unit under the older items, on the greatest level of its
-- other literals.
pub record IsImplied (clauses : List (List ℤ)) (older : List Item) (i : Item) : Type 0 where
  pub id : ℕ
  pub inside : id < length clauses
  pub kind : i.kind ≡ Implied id
  pub unit : IsUnit older i.lit (slice_index_or clauses id [])
  pub level : i.level ≡ rest_level older i.lit (slice_index_or clauses id [])

-- Each of the added items is, under those before it.
abbrev pub AreImplied : List (List ℤ) → List Item → List Item → Type 0
AreImplied clauses old [] = Unit {0}
AreImplied clauses old (i ∷ added) =
    IsImplied clauses old i × AreImplied clauses (old ++ i ∷ []) added

-- Propagation went some steps.
pub record Propagates (clauses : List (List ℤ)) (old new : List Item) : Type 0 where
  pub added : List Item
  pub grows : new ≡ old ++ added
  pub implied : AreImplied clauses old added

-- The clause of this number is false.
abbrev pub IsFalseOf : List (List ℤ) → List Item → ℕ → Type 0
IsFalseOf clauses items id =
    (id < length clauses) × (is_false_clause items (slice_index_or clauses id []) ≡ true)

-- No clause is false or unit.
abbrev pub AreAtRest : List (List ℤ) → List Item → Type 0
AreAtRest clauses items = (id : ℕ) → id < length clauses →
    IsAtRest items (slice_index_or clauses id [])

-- No clause is false, and none is unit where the current level is 0. Above it a clause may be unit:
-- one that became so where levels were taken back.
pub record IsQuiet (clauses : List (List ℤ)) (trail : TrailView) : Type 0 where
  pub none_false : (id : ℕ) → id < length clauses →
      is_false_clause trail.items (slice_index_or clauses id []) ≡ false
  pub lowest : trail.level ≡ 0 → AreAtRest clauses trail.items

-- What propagation came to.
abbrev pub CameTo : List (List ℤ) → TrailView → Propagated → Type 0
CameTo clauses trail Quiet = IsQuiet clauses trail
CameTo clauses trail (Conflict id) = IsFalseOf clauses trail.items id
