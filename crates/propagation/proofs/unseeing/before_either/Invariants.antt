use Rattle.std.proofs.Common.{◌≡◌, false, take}
use Rattle.std.specs.List.{list_any}
use Rattle.propagation.specs.Walking.{is_of_either}
use Rattle.propagation.proofs.unseeing.before_either.Given as goal

abbrev pub invariant-loop-place : goal.invariant-loop-place
invariant-loop-place l = list_any (is_of_either l.one l.other) (take l.place l.items) ≡ false
