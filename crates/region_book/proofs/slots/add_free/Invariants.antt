use Rattle.std.proofs.Common.{◌≡◌, ◌++◌, vec_capacity}
use Rattle.region_book.specs.Slots.{free_slots}
use Rattle.region_book.proofs.slots.add_free.Given as goal

abbrev pub invariant-loop-index : goal.invariant-loop-index
invariant-loop-index l = record {
  same : l.slots.items ≡ l.initial.slots.items ++ free_slots l.place 0 l.index;
  room : vec_capacity l.slots ≡ vec_capacity l.initial.slots;
}
