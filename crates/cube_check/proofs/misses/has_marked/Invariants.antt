use Rattle.std.proofs.Common.{◌≡◌, List, ℤ, take, false}
use Rattle.std.specs.List.{list_any}
use Rattle.sat_terms.specs.Cubes.{has_literal}
use Rattle.cube_check.specs.Marks.{AreMarked}
use Rattle.cube_check.proofs.misses.has_marked.Given as goal

abbrev pub invariant-loop-lit : goal.invariant-loop-lit
invariant-loop-lit l = (c : List ℤ) → AreMarked l.marks c → list_any (has_literal c) (take l.lit-index l.lits) ≡ false
