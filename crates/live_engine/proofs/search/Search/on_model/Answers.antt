use Rattle.std.proofs.Common.{◌∙◌}
use Rattle.live_engine.proofs.Models.{model_within, found_ground, found_last, found_goes}
use Rattle.live_engine.proofs.search.Search.on_model.Goals as goal

pub returns-then-level-self : goal.returns-then-level-self
returns-then-level-self c =
    found_last c.args.self.now c.requires.searching c.least_level-level.new.self c.least_level-level.result c.least_level-level.ensures
    c.copy_model.new.self c.copy_model.ensures c.push_reserved.new.self c.exact_cube.result c.push_reserved.ensures.items (c.exact_cube.ensures ∙ c.read_cube.ensures.cube) c.counted-self.result c.counted-self.ensures c.if-level-self.true

pub flip-requires-clause-ground : goal.flip-requires-clause-ground
flip-requires-clause-ground c =
    found_ground c.args.self.now c.requires.searching c.least_level-level.new.self c.least_level-level.result c.least_level-level.ensures
    c.copy_model.new.self c.copy_model.ensures c.push_reserved.new.self c.exact_cube.result c.push_reserved.ensures.items (c.exact_cube.ensures ∙ c.read_cube.ensures.cube) c.counted-self.result c.counted-self.ensures

pub flip-requires-clause-within : goal.flip-requires-clause-within
flip-requires-clause-within c = model_within c.args.self.now c.requires.searching c.least_level-level.new.self c.least_level-level.result c.least_level-level.ensures c.copy_model.new.self c.copy_model.ensures

pub returns : goal.returns
returns c =
    found_goes c.args.self.now c.requires.searching c.least_level-level.new.self c.least_level-level.result c.least_level-level.ensures
    c.copy_model.new.self c.copy_model.ensures c.push_reserved.new.self c.exact_cube.result c.push_reserved.ensures.items (c.exact_cube.ensures ∙ c.read_cube.ensures.cube) c.counted-self.result c.counted-self.ensures c.flip.new.self c.flip.result c.flip.ensures c.if-level-self.false
