use Rattle.std.proofs.Common.{◌≡◌, ◌+◌, length, take}
use Rattle.search_job.specs.Open.{untried_cubes}
use Rattle.chrono_trail.specs.Pictures.{picture_of}
use Rattle.live_engine.specs.Marks.{AreMarkedBy}
use Rattle.live_engine.proofs.search.Search.open_cubes.Given as goal

abbrev pub invariant-loop-item : goal.invariant-loop-item
invariant-loop-item l = record {
  long : length l.marks.items ≡ l.self.variables + 1;
  marks : AreMarkedBy l.self.variables l.marks.items (picture_of l.self.arena.clauses (take l.item-index l.self.trail.items));
  cubes : l.cubes.items ≡ untried_cubes l.self.shown.items l.self.base (picture_of l.self.arena.clauses (take l.item-index l.self.trail.items));
}
