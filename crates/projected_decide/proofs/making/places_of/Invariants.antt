use Rattle.std.proofs.Common.{◌≡◌, ℕ, ◌+◌, ◌-◌, ◌≤◌, length, get_or, drop}
use Rattle.projected_decide.specs.Orders.{place_in}
use Rattle.projected_decide.proofs.making.places_of.Given as goal

abbrev pub invariant-loop-later : goal.invariant-loop-later
invariant-loop-later l = record {
  places : length l.places.items ≡ l.variables + 1;
  tells : (v : ℕ) → v ≤ l.variables →
      get_or l.places.items v 0 ≡ (length l.order - l.later) + place_in v (drop (length l.order - l.later) l.order);
}
