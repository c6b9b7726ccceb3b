use Rattle.std.proofs.Common.{◌-◌, length}
use Rattle.region_book.specs.Slots.{AreTakenUpTo}
use Rattle.region_book.proofs.slots.first_free_from.Given as goal

abbrev pub invariant-loop-at : goal.invariant-loop-at
invariant-loop-at l = AreTakenUpTo l.slots l.at

abbrev pub decreases-loop-at : goal.decreases-loop-at
decreases-loop-at l = length l.slots - l.at
