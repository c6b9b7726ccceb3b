use Rattle.std.proofs.Common.{subst}
use Rattle.live_engine.specs.Steps.{TurnsDecision}
use Rattle.live_engine.proofs.Turns.{conflict_last, conflict_goes, conflict_on}
use Rattle.live_engine.proofs.search.Search.on_conflict.Goals as goal

pub returns-then-level-self : goal.returns-then-level-self
returns-then-level-self c =
    conflict_last c.args.self.now c.requires.searching c.args.id c.requires.wrong c.level_of_clause-level.result c.level_of_clause-level.ensures.level
    c.counted-self.result c.counted-self.ensures c.if-level-self.true

pub returns-then-turn : goal.returns-then-turn
returns-then-turn c =
    conflict_goes c.args.self.now c.requires.searching c.args.id c.requires.wrong c.level_of_clause-level.result c.level_of_clause-level.ensures.level
    c.turn.new.self (subst (TurnsDecision c.args.self.now c.turn.new.self c.level_of_clause-level.result) c.if-turn.true c.turn.ensures)
    c.counted-self-then-turn.result c.counted-self-then-turn.ensures c.if-level-self.false

pub returns : goal.returns
returns c =
    conflict_on c.args.self.now c.requires.searching c.args.id c.requires.wrong c.level_of_clause-level.result c.level_of_clause-level.ensures.level
    c.turn.new.self (subst (TurnsDecision c.args.self.now c.turn.new.self c.level_of_clause-level.result) c.if-turn.false c.turn.ensures) c.if-level-self.false
