use Rattle.std.proofs.Common.{◌≡◌, [], take, drop}
use Rattle.dimacs_front.specs.MachineUnder.{AreSigns}
use Rattle.dimacs_front.specs.TextEnds.{first_misplaced}
use Rattle.dimacs_front.proofs.UnderSteps.{literals}
use Rattle.dimacs_front.proofs.under_lines.UnderLines.cube.Given as goal

abbrev pub invariant-loop-given : goal.invariant-loop-given
invariant-loop-given l = record {
  signs : AreSigns l.signs.positive l.signs.negative (literals (take l.given-index l.self));
  rest : first_misplaced l.shown [] l.self ≡
      first_misplaced l.shown (literals (take l.given-index l.self)) (drop l.given-index l.self);
}
