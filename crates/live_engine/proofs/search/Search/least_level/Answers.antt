use Rattle.std.proofs.Common.{refl, subst}
use Rattle.implicant_shrink.specs.Levels.{marked}
use Rattle.implicant_shrink.specs.Shrinking.{IsLeastFrom}
use Rattle.live_engine.specs.Searching.{pictured_trail, search_formula}
use Rattle.live_engine.proofs.Leasts.{least_told, none_false_in}
use Rattle.live_engine.proofs.search.Search.least_level.Goals as goal

pub level-requires-clause-met : goal.level-requires-clause-met
level-requires-clause-met c = none_false_in c.args.self.now.trail.items c.args.self.now.arena.base c.args.self.now.arena.clauses c.requires.quiet.none_false

pub returns : goal.returns
returns c = record {
  least = least_told c.args.self.now c.requires.searching.ground c.level.result (subst (λ xs. IsLeastFrom c.args.self.now.base (marked xs) (pictured_trail c.args.self.now) (search_formula c.args.self.now) c.level.result) c.as_slice.ensures.value c.level.ensures.least);
  formula = c.level.ensures.formula;
  rest = refl;
}
