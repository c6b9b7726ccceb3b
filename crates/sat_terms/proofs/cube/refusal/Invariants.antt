use Rattle.std.proofs.Common.{◌≡◌, take}
use Rattle.sat_terms.specs.Cubes.{IsCube, last_variable}
use Rattle.sat_terms.proofs.cube.refusal.Given as goal

-- the literals so far make a cube, which ends at the variable before
abbrev pub invariant-loop-place : goal.invariant-loop-place
invariant-loop-place l = IsCube l.shown (take l.place l.lits) × (l.previous ≡ last_variable 0 (take l.place l.lits))
