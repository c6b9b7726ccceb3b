-- What contracts see of a trail, and what each trail keeps.
use Rattle.std.specs.Prelude.{◌≡◌, ℕ, ◌+◌, ◌-◌, ◌<◌, ◌≤◌, ◌^◌, true, cond, nat_eq, List, length, filter, take, slice_index_or, Option, None}
use Rattle.std.specs.List.{list_all}
use Rattle.chrono_trail.specs.declared.item.Item.{Item}
use Rattle.chrono_trail.specs.Items.{item_of, is_upto, is_within, are_distinct, depth_from, may_all_stand, decisions_from}

-- A trail for the variables 1 to `variables`: its items, the oldest first, the current level, and
-- how many of the oldest items its user has marked as seen.
pub record TrailView : Type 0 where
  pub variables : ℕ
  pub items : List Item
  pub level : ℕ
  pub seen : ℕ

-- How many items are marked as seen once the levels above k are taken back: those of the marked
-- ones that stay, and none where k is 0.
abbrev pub seen_back : ℕ → TrailView → ℕ
seen_back k trail =
    cond (nat_eq k 0) 0 (length (filter (is_upto k) (take trail.seen trail.items)))

-- The items are of distinct variables among 1 to n. Each level from 1 to the current one has just
-- one decision, in this order; each other item is of a level of at most that of the last decision
-- before it, or 0.
pub record IsTrail (n : ℕ) (items : List Item) (level : ℕ) : Type 0 where
  pub small : n < 2 ^ 31
  pub within : list_all (is_within n) items ≡ true
  pub distinct : are_distinct items ≡ true
  pub stands : may_all_stand 0 items ≡ true
  pub current : level ≡ depth_from 0 items

-- The table tells the item of each variable, the stack the places of the decisions, just items are
-- marked as seen, and a place is kept in each list for an item of each variable.
pub record IsKept (items : List Item) (given : List (Option Item)) (decided : List ℕ)
    (seen level wide deep : ℕ) : Type 0 where
  pub trail : IsTrail (length given - 1) items level
  pub places : 0 < length given
  pub tells : (v : ℕ) → v < length given → slice_index_or given v None ≡ item_of items v
  pub stack : decided ≡ decisions_from 0 items
  pub marked : seen ≤ length items
  pub room : length given ≤ wide + 1
  pub depth_room : length given ≤ deep + 1
