use Rattle.std.proofs.Common.{take}
use Rattle.chrono_trail.proofs.Clauses.{SoFar}
use Rattle.chrono_trail.proofs.clause.scan.Given as goal

abbrev pub invariant-loop-lit : goal.invariant-loop-lit
invariant-loop-lit l = SoFar l.trail.items (take l.lit-index l.clause) l.free
