-- Literals and clauses under a trail. A clause is the set of its literals. By `has_pair` of the
-- picture a clause may hold a literal and its negation; as a trail has one literal of a variable,
-- such a clause is never false or unit.
use Rattle.std.specs.Prelude.{◌≡◌, ℕ, Bool, true, false, cond, ◌&&◌, ◌||◌, nat_le, max, List, [], ◌∷◌, ℤ, neg_ℤ, nat_abs, Option, Some, None}
use Rattle.std.specs.List.{list_any, list_all}
use Rattle.std.specs.Ordering.{int_eq}
use Rattle.sat_terms.specs.Cubes.{has_literal}
use Rattle.chrono_trail.specs.declared.clause.Scanned.{Scanned}
use Rattle.chrono_trail.specs.declared.clause.Scanned.TheVariants.{False, Unit as OfUnit, Neither}
use Rattle.chrono_trail.specs.declared.item.Item.{Item}
use Rattle.chrono_trail.specs.Items.{item_of}

-- The literal is true: it is on the trail.
abbrev pub is_true : List Item → ℤ → Bool
is_true items l = list_any (λ i. int_eq l i.lit) items

-- The literal is false: its negation is on the trail.
abbrev pub is_false : List Item → ℤ → Bool
is_false items l = list_any (λ i. int_eq l (neg_ℤ i.lit)) items

-- The literal is false by an item of level at most k.
abbrev pub false_upto : ℕ → List Item → ℤ → Bool
false_upto k items l = list_any (λ i. int_eq l (neg_ℤ i.lit) && nat_le i.level k) items

-- The clause is false: each literal is.
abbrev pub is_false_clause : List Item → List ℤ → Bool
is_false_clause items c = list_all (is_false items) c

-- The literal m is l, or false.
abbrev pub is_or_false : List Item → ℤ → ℤ → Bool
is_or_false items l m = int_eq m l || is_false items m

-- The clause is unit: its literal l is unassigned, and each other one is false.
pub record IsUnit (items : List Item) (l : ℤ) (c : List ℤ) : Type 0 where
  pub free : item_of items (nat_abs l) ≡ None
  pub among : has_literal c l ≡ true
  pub rest : list_all (is_or_false items l) c ≡ true

-- The level of an item, or 0 where there is none.
abbrev pub level_or_zero : Option Item → ℕ
level_or_zero None = 0
level_or_zero (Some i) = i.level

-- The greatest level of the literals of the clause other than l, or 0.
abbrev pub rest_level : List Item → ℤ → List ℤ → ℕ
rest_level items l [] = 0
rest_level items l (m ∷ c) =
    max (cond (int_eq m l) 0 (level_or_zero (item_of items (nat_abs m)))) (rest_level items l c)

-- The clause is neither false nor unit.
pub record IsAtRest (items : List Item) (c : List ℤ) : Type 0 where
  pub not_false : is_false_clause items c ≡ false
  pub not_unit : (l : ℤ) → IsUnit items l c → ⊥

-- What a scan of a clause tells.
abbrev pub IsScan : List Item → List ℤ → Scanned → Type 0
IsScan items c False = is_false_clause items c ≡ true
IsScan items c (OfUnit l) = IsUnit items l c
IsScan items c Neither = IsAtRest items c

-- The clause is a reason for the item: it has the item's literal, and each other literal of it is
-- false by an older item of at most the item's level.
pub record IsReason (older : List Item) (i : Item) (c : List ℤ) : Type 0 where
  pub among : has_literal c i.lit ≡ true
  pub rest : list_all (λ m. int_eq m i.lit || false_upto i.level older m) c ≡ true
