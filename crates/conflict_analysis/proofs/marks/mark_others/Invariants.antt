use Rattle.std.proofs.Common.{◌≡◌, length, take}
use Rattle.conflict_analysis.specs.Marks.{mark_count}
use Rattle.conflict_analysis.proofs.Counts.{AreMarked}
use Rattle.conflict_analysis.proofs.marks.mark_others.Given as goal

abbrev pub invariant-loop-other : goal.invariant-loop-other
invariant-loop-other l = record {
  long : length l.marks.items ≡ length l.initial.marks.items;
  counted : l.left ≡ mark_count l.marks.items;
  marked : AreMarked l.initial.marks.items l.lit (take l.other-index l.clause) l.marks.items;
}
