use Rattle.std.proofs.Common.{◌≡◌, ◌++◌, length}
use Rattle.std.specs.Vec.Iter.{into_iter_items, into_iter_len}
use Rattle.dimacs_front.specs.TextEnds.{cubes_of}
use Rattle.dimacs_front.proofs.saved_lines.cubes_of.Given as goal

abbrev pub invariant-loop-line : goal.invariant-loop-line
invariant-loop-line l = record {
  moved : l.cubes.items ++ cubes_of (into_iter_items l.line-iterator) ≡ cubes_of (into_iter_items l.initial.line-iterator);
  counted : into_iter_len l.line-iterator ≡ length (into_iter_items l.line-iterator);
}
