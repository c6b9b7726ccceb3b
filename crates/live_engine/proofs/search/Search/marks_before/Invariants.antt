use Rattle.std.proofs.Common.{◌≡◌, ◌+◌, length, take}
use Rattle.chrono_trail.specs.Pictures.{picture_of}
use Rattle.live_engine.specs.Marks.{AreMarkedBy}
use Rattle.live_engine.proofs.search.Search.marks_before.Given as goal

abbrev pub invariant-loop-item : goal.invariant-loop-item
invariant-loop-item l = record {
  long : length l.marks.items ≡ l.self.variables + 1;
  marks : AreMarkedBy l.self.variables l.marks.items (picture_of l.self.arena.clauses (take l.item-index l.self.trail.items));
}
