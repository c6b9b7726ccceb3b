use Rattle.std.proofs.Common.{◌-◌, ◌≤◌, length, take}
use Rattle.fault_io.specs.Sinks.{TakesBytes}
use Rattle.fault_io.proofs.whole.write_whole.Given as goal

abbrev pub invariant-loop-at : goal.invariant-loop-at
invariant-loop-at g l = record {
  within : l.at ≤ length l.piece;
  gone : TakesBytes (g.K.Sink.shows l.initial.out) (g.K.Sink.shows l.out) (take l.at l.piece);
}

abbrev pub decreases-loop-at : goal.decreases-loop-at
decreases-loop-at g l = length l.piece - l.at
