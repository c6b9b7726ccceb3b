-- The laws of deciding: what is decided next, and how the place moves.
use Rattle.std.specs.Prelude.{◌≡◌, ℕ, ◌<◌, ◌≤◌, Bool, true, false, ◌||◌, nat_le, List, ◌++◌, filter, ℤ, pos, neg_ℤ, nat_abs, Some, None}
use Rattle.std.specs.List.{list_all}
use Rattle.sat_terms.specs.Literals.{IsLiteralOf}
use Rattle.sat_terms.specs.Cubes.{is_among}
use Rattle.sat_terms.specs.Subjects.{IsShown}
use Rattle.chrono_trail.specs.declared.item.Item.{Item}
use Rattle.chrono_trail.specs.Items.{item_of}
use Rattle.projected_decide.specs.Orders.{OrderView, order_of, is_set, next_decision, place_in, HasPassed}

-- The literal is that of the lowest unassigned shown variable; only where each shown variable is
-- assigned, that of the lowest unassigned hidden one. It is negative.
pub record IsLowestFree (n : ℕ) (shown : List ℕ) (items : List Item) (l : ℤ) : Type 0 where
  pub negative : l ≡ neg_ℤ (pos (nat_abs l))
  pub named : IsLiteralOf n l
  pub free : item_of items (nat_abs l) ≡ None
  pub late : is_among shown (nat_abs l) ≡ false → list_all (is_set items) shown ≡ true
  pub lowest : (v : ℕ) → 0 < v → v < nat_abs l → is_among shown v ≡ is_among shown (nat_abs l) →
      is_set items v ≡ true

-- What is decided next is the lowest free variable, the shown ones first.
abbrev pub DecisionsAreLowest : Type 0
DecisionsAreLowest = (n : ℕ) (shown : List ℕ) (items : List Item) (l : ℤ) → IsShown n shown →
    next_decision items (order_of n shown) ≡ Some l → IsLowestFree n shown items l

-- Where nothing is decided next, each variable is assigned.
abbrev pub NoneMeansFull : Type 0
NoneMeansFull = (n : ℕ) (shown : List ℕ) (items : List Item) →
    next_decision items (order_of n shown) ≡ None →
    (v : ℕ) → 0 < v → v ≤ n → is_set items v ≡ true

-- Items that are appended leave the variables before the place assigned.
abbrev pub AppendingKeepsPassed : Type 0
AppendingKeepsPassed = (items added : List Item) (o : OrderView) → HasPassed items o →
    HasPassed (items ++ added) o

-- So does taking items away, once the place is at most that of each variable that goes.
abbrev pub PuttingBackKeepsPassed : Type 0
PuttingBackKeepsPassed = (items : List Item) (stays : Item → Bool) (old new : OrderView) →
    HasPassed items old → new.order ≡ old.order → new.from ≤ old.from →
    list_all (λ i. stays i || nat_le new.from (place_in (nat_abs i.lit) old.order)) items ≡ true →
    HasPassed (filter stays items) new
