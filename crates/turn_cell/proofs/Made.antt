-- The passes that are made.
use Rattle.std.proofs.Common.{ℕ}
use Rattle.turn_cell.specs.declared.rule.View.{View}
use Rattle.turn_cell.specs.Rule.{first_view}

-- the first seat's view once n passes are made
abbrev pub root_view : {E F : Type 0} → F → ℕ → View E F
root_view start n = record (first_view start) { made = n }
