use Rattle.std.proofs.Common.{length, drop, ◌-◌, ◌+◌, ◌≡◌, ◌≤◌}
use Rattle.sat_terms.specs.Cubes.{apart}
use Rattle.sat_terms.proofs.relations.apart.Given as goal

-- what is left of both cubes decides
abbrev pub invariant-loop-i : goal.invariant-loop-i
invariant-loop-i l = (l.i ≤ length l.c) × (l.j ≤ length l.d) × (apart l.c l.d ≡ apart (drop l.i l.c) (drop l.j l.d))

abbrev pub decreases-loop-i : goal.decreases-loop-i
decreases-loop-i l = (length l.c - l.i) + (length l.d - l.j)
