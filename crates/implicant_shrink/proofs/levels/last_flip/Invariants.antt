use Rattle.std.proofs.Common.{◌≤◌, length}
use Rattle.implicant_shrink.specs.Levels.{marked, AreNoFlips}
use Rattle.implicant_shrink.proofs.levels.last_flip.Given as goal

abbrev pub invariant-loop-end : goal.invariant-loop-end
invariant-loop-end l = record {
  within : l.end ≤ length l.items;
  after : AreNoFlips (marked l.shown) l.items l.end;
}

abbrev pub decreases-loop-end : goal.decreases-loop-end
decreases-loop-end l = l.end
