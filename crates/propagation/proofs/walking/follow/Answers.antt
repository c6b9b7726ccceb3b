use Rattle.std.proofs.Common.{◌≡◌, ◌+◌, ◌<◌, ◌-◌, length, ℤ, sym, ap, subst, ◌∙◌, arith, rules}
use mir.Syntax.{w32}
use mir.Val.{SFits}
use Rattle.std.proofs.lemmas.Int.{to_z-of_z}
use Rattle.chrono_trail.specs.Trails.{TrailView}
use Rattle.chrono_trail.proofs.Room.{items_bound}
use Rattle.watch_lists.specs.Views.{ListsView}
use Rattle.propagation.specs.Walking.{IsReady, IsPassed}
use Rattle.propagation.specs.Steps.{Propagates}
use Rattle.propagation.proofs.Steps.{and_then}
use Rattle.propagation.proofs.Seeing.{ready_see}
use Rattle.propagation.proofs.walking.follow.Goals as goal

pub loop-trail-preserved : goal.loop-trail-preserved
loop-trail-preserved c =
    let clauses = c.args.arena.now.clauses in
    let old : TrailView = c.loop-trail.trail in
    let v : ListsView = c.walk.new.watches in
    let new : TrailView = c.walk.new.trail in
    let inv = c.loop-trail.invariant in
    let e = c.walk.ensures in
    let lit : ℤ = c.next_false-lit.result in
    let fits : SFits w32 lit = search rules in
    let passed : IsPassed v new.items lit = subst (IsPassed v new.items) (to_z-of_z w32 lit fits) c.in_default.ensures.outcome in
    let inside : old.seen < length old.items =
    subst (λ k. k < length old.items) c.seen.ensures.seen (subst (λ xs. c.seen.result < length xs) c.items.ensures.items c.loop-trail-test.true) in
    let ready : IsReady clauses v (record new { seen = new.seen + 1 }) = ready_see clauses v old new lit c.next_false-lit.ensures.next inside e.steps e.same e.ready passed in
    let seen_is : c.see.new.self ≡ record new { seen = new.seen + 1 } = c.see.ensures ∙ ap (λ k. record new { seen = k + 1 }) c.seen-in-loop-trail.ensures.seen in
    record {
      ready = subst (IsReady clauses v) (sym seen_is) ready;
      steps = subst (λ (t : TrailView). Propagates clauses c.args.trail.now.items t.items) (sym seen_is) (and_then clauses c.args.trail.now.items old.items new.items inv.steps e.steps);
      level = ap (λ (t : TrailView). t.level) seen_is ∙ e.same.level ∙ inv.level;
      variables = ap (λ (t : TrailView). t.variables) seen_is ∙ e.same.variables ∙ inv.variables;
      places = e.places ∙ inv.places;
    }

pub loop-trail-smaller : goal.loop-trail-smaller
loop-trail-smaller c =
    let old : TrailView = c.loop-trail.trail in
    let new : TrailView = c.walk.new.trail in
    let e = c.walk.ensures in
    let seen_is : c.see.new.self ≡ record new { seen = new.seen + 1 } = c.see.ensures ∙ ap (λ k. record new { seen = k + 1 }) c.seen-in-loop-trail.ensures.seen in
    let inside : old.seen < length old.items =
    subst (λ k. k < length old.items) c.seen.ensures.seen (subst (λ xs. c.seen.result < length xs) c.items.ensures.items c.loop-trail-test.true) in
    let bound = items_bound old.variables old.items old.level c.loop-trail.invariant.ready.stands in
    let variables = ap (λ (t : TrailView). t.variables) seen_is ∙ e.same.variables in
    let seen = ap (λ (t : TrailView). t.seen) seen_is ∙ ap (λ k. k + 1) e.same.seen in
    let less : c.see.new.self.variables - c.see.new.self.seen < old.variables - old.seen = omega arith in
    less

pub returns-in-Some-clause-steps : goal.returns-in-Some-clause-steps
returns-in-Some-clause-steps c = and_then c.args.arena.now.clauses c.args.trail.now.items c.loop-trail.trail.items c.walk.new.trail.items c.loop-trail.invariant.steps c.walk.ensures.steps
