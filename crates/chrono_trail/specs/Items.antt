-- The items of a trail, the oldest first, and what they say of a variable.
use Rattle.std.specs.Prelude.{◌≡◌, ℕ, suc, ◌-◌, ◌<◌, Bool, true, false, cond, ◌&&◌, nat_eq, nat_lt, nat_le, List, [], ◌∷◌, length, find, take, slice_index_or, slice_get, ℤ, nat_abs, Option, Some, None, is_none}
use Rattle.std.specs.List.{list_any, list_all}
use Rattle.std.specs.Ordering.{int_eq}
use Rattle.chrono_trail.specs.declared.item.Kind.{Kind}
use Rattle.chrono_trail.specs.declared.item.Kind.TheVariants.{Assumed, Decided, Flipped, Turned, Implied}
use Rattle.chrono_trail.specs.declared.item.Item.{Item}

-- The literal was decided.
abbrev pub is_decision : Kind → Bool
is_decision Assumed = false
is_decision Decided = true
is_decision Flipped = false
is_decision (Turned id) = false
is_decision (Implied id) = false

-- The item is a decision of level k.
abbrev pub decides : ℕ → Item → Bool
decides k i = is_decision i.kind && nat_eq i.level k

-- The number of the clause that a kind names, where it names one.
abbrev pub reason_id : Kind → Option ℕ
reason_id Assumed = None
reason_id Decided = None
reason_id Flipped = None
reason_id (Turned id) = Some id
reason_id (Implied id) = Some id

-- The clause that a kind names, where it names one, is one of the first m.
abbrev pub is_inside : ℕ → Kind → Bool
is_inside m Assumed = true
is_inside m Decided = true
is_inside m Flipped = true
is_inside m (Turned id) = nat_lt id m
is_inside m (Implied id) = nat_lt id m

-- Each item names at most clauses among the first m.
abbrev pub are_inside : ℕ → List Item → Bool
are_inside m items = list_all (λ i. is_inside m i.kind) items

-- The item of a variable, where it has one.
abbrev pub item_of : List Item → ℕ → Option Item
item_of items v = find (λ i. nat_eq v (nat_abs i.lit)) items

-- The level of an item, where there is one.
abbrev pub level_in : Option Item → Option ℕ
level_in None = None
level_in (Some i) = Some i.level

-- Whether the literal is that of the item, where there is one.
abbrev pub value_in : ℤ → Option Item → Option Bool
value_in l None = None
value_in l (Some i) = Some (int_eq i.lit l)

-- The level of the literal, where it is that of the item.
abbrev pub level_if_true : ℤ → Option Item → Option ℕ
level_if_true l None = None
level_if_true l (Some i) = cond (int_eq i.lit l) (Some i.level) None

-- The item is of level at most k.
abbrev pub is_upto : ℕ → Item → Bool
is_upto k i = nat_le i.level k

-- The item at the place n, where there is one, is above level k.
abbrev pub IsAboveAt : ℕ → List Item → ℕ → Type 0
IsAboveAt k items n = (d : Item) → n < length items → is_upto k (slice_index_or items n d) ≡ false

-- The decision of level k stands at the place n: it is the first one, and no item before it is of
-- level k or above.
pub record IsDecisionAt (k : ℕ) (items : List Item) (n : ℕ) : Type 0 where
  pub inside : n < length items
  pub opens : (d : Item) → decides k (slice_index_or items n d) ≡ true
  pub found : find (decides k) items ≡ slice_get items n
  pub low : list_all (is_upto (k - 1)) (take n items) ≡ true

-- The places of the decisions among the items, the oldest first, where n items stand before them.
abbrev pub decisions_from : ℕ → List Item → List ℕ
decisions_from n [] = []
decisions_from n (i ∷ later) =
    cond (is_decision i.kind) (n ∷ decisions_from (suc n) later) (decisions_from (suc n) later)

-- The item is of one of the variables 1 to n.
abbrev pub is_within : ℕ → Item → Bool
is_within n i = nat_lt 0 (nat_abs i.lit) && nat_le (nat_abs i.lit) n

-- The table of so many places has one for the item's variable.
abbrev pub HasPlace : ℕ → Item → Type 0
HasPlace places i = nat_abs i.lit < places

-- The variable has an item of level at least k.
abbrev pub goes : ℕ → List Item → ℕ → Bool
goes k items v = list_any (λ i. nat_eq v (nat_abs i.lit) && nat_le k i.level) items

-- No two items are of one variable.
abbrev pub are_distinct : List Item → Bool
are_distinct [] = true
are_distinct (i ∷ later) = is_none (item_of later (nat_abs i.lit)) && are_distinct later

-- The level that is current with an item, where k was current before it: a decision opens its own.
abbrev pub level_after : ℕ → Item → ℕ
level_after k i = cond (is_decision i.kind) i.level k

-- The level that is current with the last of the items, where k was current before them.
abbrev pub depth_from : ℕ → List Item → ℕ
depth_from k [] = k
depth_from k (i ∷ later) = depth_from (level_after k i) later

-- The item may stand where level k is current: a decision opens the next level, and no other item
-- is above k.
abbrev pub may_stand : ℕ → Item → Bool
may_stand k i = cond (is_decision i.kind) (nat_eq i.level (suc k)) (nat_le i.level k)

-- Each of the items may stand where it does, where k is current before them.
abbrev pub may_all_stand : ℕ → List Item → Bool
may_all_stand k [] = true
may_all_stand k (i ∷ later) = may_stand k i && may_all_stand (level_after k i) later
