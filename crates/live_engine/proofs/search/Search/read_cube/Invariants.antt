use Rattle.std.proofs.Common.{◌≡◌, ◌≤◌, length, take, vec_capacity}
use Rattle.search_region.specs.Trail.{upto}
use Rattle.search_region.specs.ReadCube.{read_cube}
use Rattle.live_engine.specs.Searching.{pictured_trail}
use Rattle.live_engine.proofs.search.Search.read_cube.Given as goal

abbrev pub invariant-loop-variable : goal.invariant-loop-variable
invariant-loop-variable l = record {
  cube : l.lits.items ≡ read_cube (upto l.level) (pictured_trail l.self) (take l.variable-index l.self.shown.items);
  room : length l.self.shown.items ≤ vec_capacity l.lits;
  few : length l.lits.items ≤ l.variable-index;
}
