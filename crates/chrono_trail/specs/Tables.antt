-- What the table of literals tells of that of items.
use Rattle.std.specs.Prelude.{◌≡◌, ℕ, ◌<◌, ◌≤◌, ◌^◌, cond, List, length, map, ℤ, pos, negsuc, slice_index_or, Option, Some, None}
use Rattle.std.specs.Ordering.{int_eq}
use Rattle.chrono_trail.specs.declared.item.Item.{Item}

-- The literal of an item, and 0 where there is none.
abbrev pub literal_in : Option Item → ℤ
literal_in None = pos 0
literal_in (Some i) = i.lit

-- The literals are those of the items, of which none is 0.
pub record TellsLiterals (items : List (Option Item)) (lits : List ℤ) : Type 0 where
  pub told : lits ≡ map literal_in items
  pub named : (v : ℕ) → v < length items → literal_in (slice_index_or items v None) ≡ pos 0 →
      slice_index_or items v None ≡ None

-- The literal of a place without an item. It is that of no variable.
abbrev pub no_literal : ℤ
no_literal = negsuc 2147483647

-- The item that stands at a place, where one does.
abbrev pub item_at : Item → Option Item
item_at i = cond (int_eq i.lit no_literal) None (Some i)

-- The table of items has a place for each variable, and that of literals says the same.
pub record IsTable (items : List Item) (lits : List ℤ) : Type 0 where
  pub small : length items ≤ 2 ^ 31
  pub literals : TellsLiterals (map item_at items) lits
