use Rattle.std.proofs.Common.{}
use Rattle.propagation.proofs.replacing.on_level.Given as goal

abbrev pub invariant-loop-lit : goal.invariant-loop-lit
invariant-loop-lit l = Unit {0}
