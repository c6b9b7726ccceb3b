use Rattle.std.proofs.Common.{◌≡◌, ◌++◌, length}
use Rattle.std.specs.Vec.Iter.{into_iter_items, into_iter_len}
use Rattle.dimacs_front.specs.TextEnds.{mets_of}
use Rattle.dimacs_front.proofs.met_lines.mets_of.Given as goal

abbrev pub invariant-loop-line : goal.invariant-loop-line
invariant-loop-line l = record {
  moved : l.met.items ++ mets_of (into_iter_items l.line-iterator) ≡ mets_of (into_iter_items l.initial.line-iterator);
  counted : into_iter_len l.line-iterator ≡ length (into_iter_items l.line-iterator);
}
