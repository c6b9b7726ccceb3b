use Rattle.std.proofs.Common.{◌≡◌, ◌<◌, true, length, ℤ, Some, refl, sym, subst, ◌∙◌, arith}
use mir.Syntax.{w32}
use mir.Val.{to_z, of_z}
use Rattle.sat_terms.specs.CubeOrder.{key}
use Rattle.chrono_trail.specs.Clauses.{is_false}
use Rattle.watch_lists.specs.Views.{ListsView, list_of}
use Rattle.propagation.specs.Steps.{IsFalseOf}
use Rattle.propagation.proofs.Steps.{and_then}
use Rattle.propagation.proofs.Lists.{IsWalking, IsFurther, at_hand, walks_further, left_is, to_go, same_but}
use Rattle.propagation.proofs.walking.walk.Goals as goal

pub after-at-requires : goal.after-at-requires
after-at-requires c =
    let lit : ℤ = to_z w32 (of_z w32 c.args.lit) in
    let walking : IsWalking c.args.arena.now.clauses c.loop-at.watches c.loop-at.trail lit (Some c.in-Some.watch) =
    subst (IsWalking c.args.arena.now.clauses c.loop-at.watches c.loop-at.trail lit) c.in-Some.is c.loop-at.invariant.walking in
    record { stands = (at_hand c.args.arena.now.clauses c.loop-at.watches c.loop-at.trail lit c.in-Some.watch walking).stands }

pub visit-requires-clause-stands : goal.visit-requires-clause-stands
visit-requires-clause-stands c =
    let lit : ℤ = to_z w32 (of_z w32 c.args.lit) in
    let walking : IsWalking c.args.arena.now.clauses c.loop-at.watches c.loop-at.trail lit (Some c.in-Some.watch) =
    subst (IsWalking c.args.arena.now.clauses c.loop-at.watches c.loop-at.trail lit) c.in-Some.is c.loop-at.invariant.walking in
    (at_hand c.args.arena.now.clauses c.loop-at.watches c.loop-at.trail lit c.in-Some.watch walking).stands

pub visit-requires-clause-wrong : goal.visit-requires-clause-wrong
visit-requires-clause-wrong c =
    let lit : ℤ = to_z w32 (of_z w32 c.args.lit) in
    let walking : IsWalking c.args.arena.now.clauses c.loop-at.watches c.loop-at.trail lit (Some c.in-Some.watch) =
    subst (IsWalking c.args.arena.now.clauses c.loop-at.watches c.loop-at.trail lit) c.in-Some.is c.loop-at.invariant.walking in
    subst (λ x. is_false c.loop-at.trail.items x ≡ true) (sym (at_hand c.args.arena.now.clauses c.loop-at.watches c.loop-at.trail lit c.in-Some.watch walking).lit) walking.wrong

pub returns-then-not-visit-clause-steps : goal.returns-then-not-visit-clause-steps
returns-then-not-visit-clause-steps c =
    and_then c.args.arena.now.clauses c.args.trail.now.items c.loop-at.trail.items c.visit.new.trail.items c.loop-at.invariant.steps c.visit.ensures.steps

pub returns-then-not-visit-clause-outcome : goal.returns-then-not-visit-clause-outcome
returns-then-not-visit-clause-outcome c =
    subst (IsFalseOf c.args.arena.now.clauses c.visit.new.trail.items) (sym c.clause.ensures) (c.if-not-visit.ensures.conflict refl)

pub loop-at-smaller : goal.loop-at-smaller
loop-at-smaller c =
    let clauses = c.args.arena.now.clauses in
    let v : ListsView = c.loop-at.watches in
    let new : ListsView = c.visit.new.watches in
    let lit : ℤ = to_z w32 (of_z w32 c.args.lit) in
    let walking : IsWalking clauses v c.loop-at.trail lit (Some c.in-Some.watch) =
    subst (IsWalking clauses v c.loop-at.trail lit) c.in-Some.is c.loop-at.invariant.walking in
    let further : IsFurther clauses new c.visit.new.trail lit c.after-at.result (length walking.later) =
    walks_further clauses v new c.loop-at.trail c.visit.new.trail lit c.in-Some.watch c.after-at.result walking c.after-at.ensures.after c.visit.ensures.steps c.visit.ensures.ready (c.if-not-visit.ensures.passed refl) in
    let now = left_is clauses new c.visit.new.trail lit c.after-at.result further.walking in
    let before = left_is clauses v c.loop-at.trail lit (Some c.in-Some.watch) walking in
    let shorter = further.shorter in
    let less : to_go (list_of new (key lit)) c.after-at.result < to_go (list_of v (key lit)) (Some c.in-Some.watch) = omega arith in
    subst (λ a. to_go (list_of new (key lit)) c.after-at.result < to_go (list_of v (key lit)) a) (sym c.in-Some.is) less

pub loop-at-preserved : goal.loop-at-preserved
loop-at-preserved c =
    let clauses = c.args.arena.now.clauses in
    let v : ListsView = c.loop-at.watches in
    let new : ListsView = c.visit.new.watches in
    let lit : ℤ = to_z w32 (of_z w32 c.args.lit) in
    let walking : IsWalking clauses v c.loop-at.trail lit (Some c.in-Some.watch) =
    subst (IsWalking clauses v c.loop-at.trail lit) c.in-Some.is c.loop-at.invariant.walking in
    let further : IsFurther clauses new c.visit.new.trail lit c.after-at.result (length walking.later) =
    walks_further clauses v new c.loop-at.trail c.visit.new.trail lit c.in-Some.watch c.after-at.result walking c.after-at.ensures.after c.visit.ensures.steps c.visit.ensures.ready (c.if-not-visit.ensures.passed refl) in
    record {
      walking = further.walking;
      steps = and_then clauses c.args.trail.now.items c.loop-at.trail.items c.visit.new.trail.items c.loop-at.invariant.steps c.visit.ensures.steps;
      same = same_but c.args.trail.now c.loop-at.trail c.visit.new.trail c.loop-at.invariant.same c.visit.ensures.same;
      places = c.visit.ensures.places ∙ c.loop-at.invariant.places;
    }
