use Rattle.std.proofs.Common.{◌≡◌, take}
use Rattle.search_region.specs.Trail.{upto}
use Rattle.search_region.specs.ReadCube.{read_cube}
use Rattle.plain_search.specs.Searching.{listed_trail}
use Rattle.plain_search.proofs.search.Search.cube_up_to.Given as goal

abbrev pub invariant-loop-variable : goal.invariant-loop-variable
invariant-loop-variable l = l.lits.items ≡ read_cube (upto l.level) (listed_trail l.subject l.self) (take l.variable-index l.subject.shown)
