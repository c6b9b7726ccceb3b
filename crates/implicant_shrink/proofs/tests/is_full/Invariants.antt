use Rattle.std.proofs.Common.{◌≡◌, ℕ, ◌<◌, ◌≤◌, true}
use Rattle.std.specs.Prelude.{is_some}
use Rattle.chrono_trail.specs.Items.{item_of}
use Rattle.implicant_shrink.proofs.tests.is_full.Given as goal

abbrev pub invariant-loop-below : goal.invariant-loop-below
invariant-loop-below l = (v : ℕ) → 0 < v → v ≤ l.below → is_some (item_of l.trail.items v) ≡ true
