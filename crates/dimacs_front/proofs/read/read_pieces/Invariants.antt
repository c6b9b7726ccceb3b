use Rattle.std.proofs.Common.{◌-◌, ◌≤◌}
use Rattle.dimacs_front.specs.Limits.{most_bytes}
use Rattle.dimacs_front.proofs.Taking.{TookText}
use Rattle.dimacs_front.proofs.read.read_pieces.Given as goal

abbrev pub invariant-loop-reader : goal.invariant-loop-reader
invariant-loop-reader g l = record {
  took : TookText (g.S.Source.shows l.initial.source) (g.S.Source.shows l.source) l.reader l.count;
  within : l.count ≤ most_bytes;
  lines : l.reader.state.lines ≤ l.count;
}

abbrev pub decreases-loop-reader : goal.decreases-loop-reader
decreases-loop-reader g l = most_bytes - l.count
