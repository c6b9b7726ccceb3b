use Rattle.std.proofs.Common.{length, drop, ◌-◌, ◌+◌, ◌≡◌, ◌≤◌}
use Rattle.sat_terms.specs.Cubes.{within}
use Rattle.sat_terms.proofs.relations.within.Given as goal

-- what is left of both cubes decides
abbrev pub invariant-loop-j : goal.invariant-loop-j
invariant-loop-j l = (l.i ≤ length l.c) × (l.j ≤ length l.d) × (within l.c l.d ≡ within (drop l.i l.c) (drop l.j l.d))

abbrev pub decreases-loop-j : goal.decreases-loop-j
decreases-loop-j l = (length l.c - l.i) + (length l.d - l.j)
