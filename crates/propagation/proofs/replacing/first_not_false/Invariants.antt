use Rattle.std.proofs.Common.{◌≡◌, true, take}
use Rattle.std.specs.List.{list_all}
use Rattle.chrono_trail.specs.Clauses.{is_or_false}
use Rattle.propagation.proofs.replacing.first_not_false.Given as goal

abbrev pub invariant-loop-lit : goal.invariant-loop-lit
invariant-loop-lit l = list_all (is_or_false l.trail.items l.other) (take l.lit-index l.lits) ≡ true
