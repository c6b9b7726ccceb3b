use Rattle.std.proofs.Common.{◌≡◌, false, ◌∙◌, refl, sym}
use Rattle.sat_terms.specs.Cubes.{has_pair}
use Rattle.propagation.proofs.Settled.{settled_clear}
use Rattle.live_engine.proofs.Negated.{conflict_refutes, rest_refutes_not, ground_cleared}
use Rattle.live_engine.proofs.search.Search.try_negations.Goals as goal

pub returns-then-assume_negations-clause-ground : goal.returns-then-assume_negations-clause-ground
returns-then-assume_negations-clause-ground c =
    let s = c.args.self.now in
    ground_cleared s s.propagator c.clear-then-assume_negations.new.self c.requires.ground refl refl refl
    (settled_clear s.arena.clauses s.propagator s.trail c.clear-then-assume_negations.new.self c.requires.ground.settled c.clear-then-assume_negations.ensures.seen)
    c.clear-then-assume_negations.ensures.items c.clear-then-assume_negations.ensures.level
    (c.clear-then-assume_negations.ensures.variables ∙ c.assume_negations.ensures.variables ∙ c.clear.ensures.variables)

pub propagate-propagated-requires-clause-settled : goal.propagate-propagated-requires-clause-settled
propagate-propagated-requires-clause-settled c =
    let s = c.args.self.now in
    settled_clear s.arena.clauses s.propagator s.trail c.assume_negations.new.trail c.requires.ground.settled (c.assume_negations.ensures.seen ∙ c.clear.ensures.seen)

pub returns-in-Conflict-clause-tells : goal.returns-in-Conflict-clause-tells
returns-in-Conflict-clause-tells c =
    let s = c.args.self.now in
    let plain : has_pair c.args.lits.now ≡ false = sym c.assume_negations.ensures.pair ∙ c.if-assume_negations.false in (
      plain,
      conflict_refutes s.variables s.arena.clauses c.args.lits.now c.requires.ground.small c.requires.ground.named c.assume_negations.new.trail.items (c.assume_negations.ensures.items plain)
          c.propagate-propagated.new.trail.items c.propagate-propagated.ensures.trail.distinct c.propagate-propagated.ensures.steps c.in-Conflict.field-0 c.in-Conflict.ensures.outcome,
    )

pub returns-in-Conflict-clause-ground : goal.returns-in-Conflict-clause-ground
returns-in-Conflict-clause-ground c =
    let s = c.args.self.now in
    ground_cleared s c.propagate-propagated.new.self c.clear-2.new.self c.requires.ground c.propagate-propagated.ensures.own_variables
    c.propagate-propagated.ensures.known c.propagate-propagated.ensures.places
    (settled_clear s.arena.clauses c.propagate-propagated.new.self c.propagate-propagated.new.trail c.clear-2.new.self c.propagate-propagated.ensures.settled c.clear-2.ensures.seen)
    c.clear-2.ensures.items c.clear-2.ensures.level
    (c.clear-2.ensures.variables ∙ c.propagate-propagated.ensures.variables ∙ c.assume_negations.ensures.variables ∙ c.clear.ensures.variables)

pub returns-in-Quiet-clause-tells : goal.returns-in-Quiet-clause-tells
returns-in-Quiet-clause-tells c =
    let s = c.args.self.now in
    let plain : has_pair c.args.lits.now ≡ false = sym c.assume_negations.ensures.pair ∙ c.if-assume_negations.false in (
      plain,
      rest_refutes_not s.variables s.arena.clauses c.args.lits.now c.requires.ground.small c.requires.ground.named c.assume_negations.new.trail.items (c.assume_negations.ensures.items plain)
          c.propagate-propagated.new.trail.items c.propagate-propagated.ensures.trail.distinct c.propagate-propagated.ensures.steps
          (c.in-Quiet.ensures.outcome.lowest (c.propagate-propagated.ensures.level ∙ c.assume_negations.ensures.level)),
    )

pub returns-in-Quiet-clause-ground : goal.returns-in-Quiet-clause-ground
returns-in-Quiet-clause-ground c =
    let s = c.args.self.now in
    ground_cleared s c.propagate-propagated.new.self c.clear-2.new.self c.requires.ground c.propagate-propagated.ensures.own_variables
    c.propagate-propagated.ensures.known c.propagate-propagated.ensures.places
    (settled_clear s.arena.clauses c.propagate-propagated.new.self c.propagate-propagated.new.trail c.clear-2.new.self c.propagate-propagated.ensures.settled c.clear-2.ensures.seen)
    c.clear-2.ensures.items c.clear-2.ensures.level
    (c.clear-2.ensures.variables ∙ c.propagate-propagated.ensures.variables ∙ c.assume_negations.ensures.variables ∙ c.clear.ensures.variables)
