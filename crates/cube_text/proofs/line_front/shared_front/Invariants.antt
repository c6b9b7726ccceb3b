use Rattle.std.proofs.Common.{◌≡◌, take}
use Rattle.cube_text.proofs.line_front.shared_front.Given as goal

abbrev pub invariant-loop-place : goal.invariant-loop-place
invariant-loop-place l = take l.place l.c ≡ take l.place l.d
