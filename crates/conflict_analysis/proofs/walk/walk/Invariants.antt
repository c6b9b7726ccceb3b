use Rattle.std.proofs.Common.{◌≡◌, length, vec_capacity}
use Rattle.conflict_analysis.specs.Walks.{IsWalk}
use Rattle.conflict_analysis.proofs.walk.walk.Given as goal

abbrev pub invariant-loop-left : goal.invariant-loop-left
invariant-loop-left l = record {
  long : length l.marks.items ≡ length l.initial.marks.items;
  wide : vec_capacity l.lits ≡ vec_capacity l.initial.lits;
  walk : IsWalk l.arena.clauses l.trail.variables l.trail.items l.id l.at l.marks.items l.lits.items l.left;
}

abbrev pub decreases-loop-left : goal.decreases-loop-left
decreases-loop-left l = l.at
