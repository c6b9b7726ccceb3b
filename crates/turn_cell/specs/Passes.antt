-- What contracts see of a cell and of a pass, and what a turn does.
use Rattle.std.specs.Prelude.{◌≡◌, ℕ, ◌<◌, ◌≤◌, List, [], ◌++◌, All, length, Option, Some}
use mathlib.Core.List.{IsPrefix}
use Rattle.atomic_table.specs.Seated.{TableId}
use Rattle.turn_cell.specs.declared.rule.Start.{Start}
use Rattle.turn_cell.specs.Rule.{entries_of}
use Rattle.turn_cell.specs.Steps.{IsSized}

-- which table it is, for how many passes it was made, and what its value never changes
pub record CellView (F : Type 0) : Type 0 where
  pub table : TableId
  pub passes : ℕ
  pub fixed : F

-- which table it is of, its number, what it has seen, its own entries, and what its cell's value
-- never changes
pub record PassView (E F : Type 0) : Type 0 where
  pub table : TableId
  pub number : ℕ
  pub seen : List E
  pub own : List E
  pub fixed : Option F

-- the table has its three words and its slot, and the cell some passes
pub record IsShared (z : TableId) (passes : ℕ) : Type 0 where
  pub sized : IsSized z
  pub some : 1 ≤ passes

-- the cell with this table, as it began
abbrev pub cell_view : {T F : Type 0} → (T → F) → TableId → Start T → CellView F
cell_view fixed z start = record {
  table = z;
  passes = start.passes;
  fixed = fixed start.value.value;
}

module _ {E F : Type 0} where
  -- the pass is one of this cell
  pub record IsPassOf (cell : CellView F) (p : PassView E F) : Type 0 where
    pub table : p.table ≡ cell.table
    pub number : p.number < cell.passes
    pub fixed : p.fixed ≡ Some cell.fixed

  -- the pass n of the cell, before its first turn
  abbrev pub new_pass : CellView F → ℕ → PassView E F
  new_pass cell n = record {
    table = cell.table;
    number = n;
    seen = [];
    own = [];
    fixed = Some cell.fixed;
  }

module _ {T E F : Type 0} (journal : T → List E) (pass_of : E → ℕ) (fixed : T → F) where
  -- the value is due to the pass: its journal begins with what the pass has seen, and has of its
  -- number just its own entries
  pub record IsDue (cell : CellView F) (p : PassView E F) (x : T) : Type 0 where
    pub begins : IsPrefix p.seen (journal x)
    pub own : entries_of pass_of p.number (journal x) ≡ p.own
    pub same : fixed x ≡ cell.fixed

  -- x became y by at most one entry, of the pass n
  pub record IsEntered (n : ℕ) (x y : T) : Type 0 where
    pub added : List E
    pub grows : journal y ≡ journal x ++ added
    pub one : length added ≤ 1
    pub number : All (λ e. pass_of e ≡ n) added
    pub same : fixed y ≡ fixed x

module _ {T E F : Type 0} (journal : T → List E) where
  -- the pass p became q in a turn that left the value y and added these entries
  pub record HasSeen (p q : PassView E F) (y : T) (added : List E) : Type 0 where
    pub number : q.number ≡ p.number
    pub seen : q.seen ≡ journal y
    pub own : q.own ≡ p.own ++ added

-- In a turn the pass p became q: a value was due to it, an act that does this made of it the value
-- that was left and gave this answer, and the pass has seen what was entered.
pub record TookTurn {T E F A : Type 0} (journal : T → List E) (pass_of : E → ℕ) (fixed : T → F)
    (does : T → ℕ → T → A → Type 0) (cell : CellView F) (p q : PassView E F)
    (answer : A) : Type 0 where
  pub found : T
  pub left : T
  pub due : IsDue journal pass_of fixed cell p found
  pub did : does found p.number left answer
  pub entered : IsEntered journal pass_of fixed p.number found left
  pub seen : HasSeen journal p q left entered.added
