-- How far the walk for a free variable has come, and where it ends.
use Rattle.std.specs.Prelude.{◌≡◌, ℕ, ◌<◌, ◌≤◌, true, false, List, take, Option, Some, None, is_some}
use Rattle.std.specs.List.{list_all}
use Rattle.sat_terms.specs.Cubes.{is_among}
use Rattle.chrono_trail.specs.declared.item.Item.{Item}
use Rattle.chrono_trail.specs.Items.{item_of}
use Rattle.plain_search.specs.declared.decide.Reached.{Reached}

-- The variable has no item.
abbrev pub IsUnset : List Item → ℕ → Type 0
IsUnset items v = item_of items v ≡ None

-- Each of these variables is set.
abbrev pub AreSet : List Item → List ℕ → Type 0
AreSet items p = list_all (λ v. is_some (item_of items v)) p ≡ true

-- The variables 1 to n are set.
abbrev pub AreSetUpto : List Item → ℕ → Type 0
AreSetUpto items n = (v : ℕ) → 0 < v → v ≤ n → is_some (item_of items v) ≡ true

-- The walk has passed set variables alone.
pub record HasReached (items : List Item) (p : List ℕ) (reached : Reached) : Type 0 where
  pub shown : AreSet items (take reached.shown p)
  pub variables : AreSetUpto items reached.variable

-- The variable to decide next: free, and a hidden one only where each shown one is set. None where
-- all are set.
abbrev pub IsNextVariable : List Item → ℕ → List ℕ → Option ℕ → Type 0
IsNextVariable items n p None = AreSetUpto items n
IsNextVariable items n p (Some v) =
    (0 < v) × (v ≤ n) × IsUnset items v × (is_among p v ≡ false → AreSet items p)
