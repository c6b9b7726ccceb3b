use Rattle.turn_cell.specs.Passes.{IsPassOf}
use Rattle.turn_cell.proofs.tests.append_each_second.Given as goal

abbrev pub invariant-loop-half : goal.invariant-loop-half
invariant-loop-half g l = IsPassOf l.cell l.pass
