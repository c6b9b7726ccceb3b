use Rattle.std.proofs.Common.{◌≡◌, None, filter_map, get_or, take}
use Rattle.live_engine.proofs.search.Search.marked_cube.Given as goal

abbrev pub invariant-loop-variable : goal.invariant-loop-variable
invariant-loop-variable l = l.lits.items ≡ filter_map (λ v. get_or l.marks v None) (take l.variable-index l.self.shown.items)
