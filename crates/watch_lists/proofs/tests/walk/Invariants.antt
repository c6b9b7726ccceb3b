use Rattle.std.specs.Prelude.{IfSome}
use Rattle.watch_lists.specs.Views.{Stands}
use Rattle.watch_lists.proofs.tests.walk.Given as goal

abbrev pub invariant-loop-slot : goal.invariant-loop-slot
invariant-loop-slot l = IfSome l.at (λ w. Stands l.watches w.place)
