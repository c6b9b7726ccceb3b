use Rattle.chrono_trail.specs.Pictures.{picture_of}
use Rattle.implicant_shrink.specs.Levels.{marked}
use Rattle.implicant_shrink.specs.Shrinking.{formula_of, IsFor, RisesIn}
use Rattle.implicant_shrink.proofs.shrinker.Shrinker.rise.Given as goal

abbrev pub invariant-loop-id : goal.invariant-loop-id
invariant-loop-id l = record {
  rises : RisesIn (marked l.shown) (picture_of l.arena.clauses l.trail.items) (formula_of l.arena) l.from l.id l.fn.level l.level;
  formula : IsFor (formula_of l.arena) (record { pairs = l.self-inside.pairs.items; tried = l.self-inside.tried.items });
}
