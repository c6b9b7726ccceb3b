use Rattle.std.proofs.Common.{◌≤◌, sym, subst}
use Rattle.std.specs.List.{All}
use Rattle.search_region.specs.Work.{work}
use Rattle.chrono_trail.specs.Trails.{TrailView}
use Rattle.chrono_trail.specs.Clauses.{IsAtRest}
use Rattle.chrono_trail.specs.Pictures.{picture_of}
use Rattle.plain_search.specs.Searching.{work_left}
use Rattle.plain_search.specs.Steps.{RoundCameTo, FlipsOrEnds}
use Rattle.plain_search.proofs.Looks.{full_is_model}
use Rattle.plain_search.proofs.Moves.{conflict_advances, model_level, model_advances}
use Rattle.plain_search.proofs.search.Search.step.Goals as goal

pub shrink-requires-clause-model : goal.shrink-requires-clause-model
shrink-requires-clause-model c =
    let s = c.args.subject.now in
    let rest = subst (RoundCameTo s c.args.self.now c.propagate.new.self) c.in-Quiet.is c.propagate.ensures.outcome in
    let full = c.if-decide.ensures in
    full_is_model s c.decide.new.self full.searching full.full
    (subst (λ (t : TrailView). All (IsAtRest t.items) s.formula.clauses) (sym full.trail) rest)

pub flip-requires-in-Quiet : goal.flip-requires-in-Quiet
flip-requires-in-Quiet c =
    let shrinks = c.in_ok-level-in-Quiet.ensures in
    subst (λ (t : TrailView). c.in_ok-level-in-Quiet.level ≤ t.level) (sym shrinks.trail)
    (model_level c.args.subject.now c.decide.new.self c.shrink.new.self c.in_ok-level-in-Quiet.level c.if-decide.ensures.searching shrinks)

pub returns-in-Conflict : goal.returns-in-Conflict
returns-in-Conflict c =
    let s = c.args.subject.now in
    let wrong = subst (RoundCameTo s c.args.self.now c.propagate.new.self) c.in-Conflict.is c.propagate.ensures.outcome in
    conflict_advances s c.propagate.new.self c.propagate.ensures.searching c.level-level.ensures.trail wrong
    c.args.self.now c.flip.new.self c.flip.result c.propagate.ensures.left
    (subst (λ k. FlipsOrEnds c.propagate.new.self c.flip.new.self k c.flip.result) c.level-level.ensures.level c.flip.ensures)

pub returns-in_ok-level-in-Quiet : goal.returns-in_ok-level-in-Quiet
returns-in_ok-level-in-Quiet c =
    let s = c.args.subject.now in
    let full = c.if-decide.ensures in
    let less = subst (λ (t : TrailView). work s.formula.variables (picture_of s.formula.clauses t.items) ≤ work_left s c.args.self.now)
    (sym full.trail) c.propagate.ensures.left in
    model_advances s c.decide.new.self c.shrink.new.self c.in_ok-level-in-Quiet.level full.searching
    c.in_ok-level-in-Quiet.ensures c.args.self.now c.flip-in-Quiet.new.self c.flip-in-Quiet.result less c.flip-in-Quiet.ensures
