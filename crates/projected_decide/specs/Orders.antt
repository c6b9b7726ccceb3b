-- The order in which variables are decided, and what is decided next.
use Rattle.std.specs.Prelude.{◌≡◌, ℕ, zero, suc, ◌≤◌, ◌<◌, ◌^◌, Bool, true, not, cond, nat_eq, List, [], ◌∷◌, ◌++◌, length, filter, take, slice_index, ℤ, pos, neg_ℤ, Option, Some, None, is_some}
use Rattle.std.specs.List.{All, list_all, range_with_len}
use Rattle.sat_terms.specs.Cubes.{is_among}
use Rattle.chrono_trail.specs.declared.item.Item.{Item}
use Rattle.chrono_trail.specs.Items.{item_of}

-- What contracts see of an order over the variables 1 to `variables`: the variables as they are to
-- be decided, and the place from which on the next one is looked for.
pub record OrderView : Type 0 where
  pub variables : ℕ
  pub order : List ℕ
  pub from : ℕ

-- The shown variables, and then the hidden ones of 1 to n, rising.
abbrev pub order_of : ℕ → List ℕ → List ℕ
order_of n shown = shown ++ filter (λ v. not (is_among shown v)) (range_with_len 1 n)

-- The variable has an item.
abbrev pub is_set : List Item → ℕ → Bool
is_set items v = is_some (item_of items v)

-- What is decided next: the first variable of the order that is unassigned, false. None where each
-- is assigned.
abbrev pub next_decision : List Item → List ℕ → Option ℤ
next_decision items [] = None
next_decision items (v ∷ later) =
    cond (is_set items v) (next_decision items later) (Some (neg_ℤ (pos v)))

-- The first place of a variable in a list, and the list's length where it isn't there.
abbrev pub place_in : ℕ → List ℕ → ℕ
place_in v [] = zero
place_in v (u ∷ later) = cond (nat_eq v u) 0 (suc (place_in v later))

-- The variables before the order's place are assigned.
abbrev pub HasPassed : List Item → OrderView → Type 0
HasPassed items o = list_all (is_set items) (take o.from o.order) ≡ true

-- The variables of the order are from 1 on, and those of the table, which tells the place of each.
pub record TellsPlaces (order places : List ℕ) : Type 0 where
  pub some : 0 < length places
  pub small : length places ≤ 2 ^ 31
  pub within : All (λ v. v < length places) order
  pub named : All (λ v. 0 < v) order
  pub tells : (v : ℕ) → v < length places → slice_index places v ≡ place_in v order
