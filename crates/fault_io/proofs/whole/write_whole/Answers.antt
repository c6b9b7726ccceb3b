use Rattle.std.proofs.Common.{arith}
use Rattle.fault_io.proofs.Moves.{part_more, part_front}
use Rattle.fault_io.proofs.whole.write_whole.Goals as goal

pub loop-at-preserved : goal.loop-at-preserved
loop-at-preserved g c = record {
  within = grind arith;
  gone = part_more _ _ _ _ _ _ c.loop-at.invariant.gone c.in-Ok.ensures.1;
}

pub returns-in-Err : goal.returns-in-Err
returns-in-Err g c = part_front _ _ _ _ _ c.loop-at.invariant.gone c.in-Err.ensures
