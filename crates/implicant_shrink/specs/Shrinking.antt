-- The least level whose shown literals, with all hidden ones, meet the formula.
use Rattle.std.specs.Prelude.{◌≡◌, ℕ, ◌+◌, ◌<◌, ◌≤◌, Bool, true, false, ◌&&◌, ◌||◌, nat_le, List, [], map, length, take, slice_index_or, ℤ, pos, is_some}
use Rattle.std.specs.List.{All, list_any, list_all}
use Rattle.std.specs.Ordering.{int_eq}
use Rattle.sat_terms.specs.Literals.{IsLiteralOf}
use Rattle.sat_terms.specs.Cubes.{has_pair, has_literal}
use Rattle.search_region.specs.Trail as picture
use Rattle.search_region.specs.Model.{is_met, keeps_flips}
use Rattle.clause_arena.specs.Clauses.{Clauses}
use Rattle.chrono_trail.specs.declared.item.Item.{Item}
use Rattle.chrono_trail.specs.Items.{item_of}
use Rattle.chrono_trail.specs.Trails.{TrailView}
use Rattle.chrono_trail.specs.Clauses.{is_false_clause}
use Rattle.chrono_trail.specs.Pictures.{picture_of}
use Rattle.implicant_shrink.specs.declared.stateless.Shrunk.{Shrunk}
use Rattle.implicant_shrink.specs.declared.stateless.Shrunk.TheVariants.{Level, Missed}
use Rattle.implicant_shrink.specs.Levels.{marked}

-- The formula's clauses, without the lemmas.
abbrev pub formula_of : Clauses → List (List ℤ)
formula_of arena = take arena.base arena.clauses

-- No shown flipped literal is above the level b, and each clause is met by the hidden literals and
-- the shown ones of level at most b, or holds a literal and its negation.
abbrev pub is_enough : (ℕ → Bool) → ℕ → List picture.Item → List (List ℤ) → Bool
is_enough shown b trail f = keeps_flips shown b trail && list_all (is_met shown b trail) f

-- The level b is the least that is not below the base and is enough.
abbrev pub IsLeastFrom : ℕ → (ℕ → Bool) → List picture.Item → List (List ℤ) → ℕ → Type 0
IsLeastFrom base shown trail f b =
    (m : ℕ) → (nat_le base m && is_enough shown m trail f) ≡ nat_le b m

-- The clause of this number is the first that is false.
pub record IsFirstFalse (items : List Item) (f : List (List ℤ)) (id : ℕ) : Type 0 where
  pub inside : id < length f
  pub wrong : is_false_clause items (slice_index_or f id []) ≡ true
  pub before : list_any (is_false_clause items) (take id f) ≡ false

-- The clauses are of the trail's variables, of which each is assigned, and the table has a place
-- for each.
pub record CanShrink (arena : Clauses) (shown : List Bool) (trail : TrailView) : Type 0 where
  pub clauses : All (All (IsLiteralOf trail.variables)) arena.clauses
  pub table : length shown ≡ trail.variables + 1
  pub assigned : (v : ℕ) → 0 < v → v ≤ trail.variables → is_some (item_of trail.items v) ≡ true

-- The level b is the least of the arena's formula.
abbrev pub IsLevelOf : Clauses → List Bool → TrailView → ℕ → ℕ → Type 0
IsLevelOf arena shown trail base b =
    IsLeastFrom base (marked shown) (picture_of arena.clauses trail.items) (formula_of arena) b

-- From one level the least rises to b over the clauses of the numbers from `first` to below `end`:
-- no level between the two is enough for the formula, and b and each one above meets these clauses.
pub record RisesIn (shown : ℕ → Bool) (trail : List picture.Item) (f : List (List ℤ))
    (first end level b : ℕ) : Type 0 where
  pub above : level ≤ b
  pub needed : (m : ℕ) → level ≤ m → m < b → list_all (is_met shown m trail) f ≡ false
  pub met : (m id : ℕ) → b ≤ m → first ≤ id → id < end →
      is_met shown m trail (slice_index_or f id []) ≡ true

-- The same over the arena's formula.
abbrev pub RisesOver : Clauses → List Bool → TrailView → ℕ → ℕ → ℕ → ℕ → Type 0
RisesOver arena shown trail first end level b =
    RisesIn (marked shown) (picture_of arena.clauses trail.items) (formula_of arena)
    first end level b

-- What shrinking came to: the least level, where no clause is false, or the first false clause.
abbrev pub Shrinks : Clauses → List Bool → TrailView → ℕ → Shrunk → Type 0
Shrinks arena shown trail base (Level b) = IsLevelOf arena shown trail base b
    × (list_any (is_false_clause trail.items) (formula_of arena) ≡ false)
Shrinks arena shown trail base (Missed id) = IsFirstFalse trail.items (formula_of arena) id

-- What contracts see of a shrinker: for each clause whether it holds a literal and its negation,
-- and the literal to try first, or 0.
pub record ShrinkerView : Type 0 where
  pub pairs : List Bool
  pub tried : List ℤ

-- The literal is 0, or one of the clause.
abbrev pub may_try : List ℤ → ℤ → Bool
may_try c l = int_eq l (pos 0) || has_literal c l

-- The shrinker is one for this formula.
pub record IsFor (f : List (List ℤ)) (shrinker : ShrinkerView) : Type 0 where
  pub pairs : shrinker.pairs ≡ map has_pair f
  pub count : length shrinker.tried ≡ length f
  pub tells : (id : ℕ) → id < length f →
      may_try (slice_index_or f id []) (slice_index_or shrinker.tried id (pos 0)) ≡ true
