use Rattle.std.proofs.Common.{◌≡◌, false, take}
use Rattle.std.specs.List.{list_any}
use Rattle.chrono_trail.specs.Clauses.{is_false_clause}
use Rattle.chrono_trail.specs.Pictures.{picture_of}
use Rattle.implicant_shrink.specs.Levels.{marked}
use Rattle.implicant_shrink.specs.Shrinking.{formula_of, IsLeastFrom}
use Rattle.implicant_shrink.proofs.stateless.shrink.Given as goal

abbrev pub invariant-loop-id : goal.invariant-loop-id
invariant-loop-id l = record {
  least : IsLeastFrom l.base (marked l.shown) (picture_of l.arena.clauses l.trail.items) (take l.id (formula_of l.arena)) l.level;
  before : list_any (is_false_clause l.trail.items) (take l.id (formula_of l.arena)) ≡ false;
}
