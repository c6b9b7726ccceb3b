use Rattle.std.proofs.Common.{◌≡◌, ◌+◌, ◌*◌, length, sym, ap, subst, ◌∙◌}
use Rattle.chrono_trail.specs.Trails.{TrailView, IsTrail}
use Rattle.watch_lists.specs.Views.{ListsView}
use Rattle.propagation.specs.Settled.{IsSettled, PropagatorView}
use Rattle.propagation.specs.Steps.{Propagates, IsFalseOf}
use Rattle.propagation.specs.Walking.{IsReady, marks_after}
use Rattle.propagation.proofs.Steps.{and_then}
use Rattle.propagation.proofs.Ends.{begun, stopped, end_done, end_quiet}
use Rattle.propagation.proofs.propagator.Propagator.propagate.Goals as goal

pub take_up-short-requires-clause-held : goal.take_up-short-requires-clause-held
unfolding IsSettled
take_up-short-requires-clause-held c = c.requires.settled.held

pub returns-in-Wrong-clause-settled : goal.returns-in-Wrong-clause-settled
unfolding IsSettled
returns-in-Wrong-clause-settled c = stopped c.args.arena.now.clauses c.args.self.now c.args.trail.now c.take_up-short.new.trail c.requires.settled c.take_up-short.ensures.same c.take_up-short.ensures.steps

pub follow-wrong-requires : goal.follow-wrong-requires
unfolding IsSettled
follow-wrong-requires c =
    let clauses = c.args.arena.now.clauses in
    let old : TrailView = c.args.trail.now in
    let mid : TrailView = c.take_up-short.new.trail in
    let e = c.take_up-short.ensures in
    let lists_is : c.self.inside.watches ≡ c.args.self.now.lists = ap (λ (p : PropagatorView). p.lists) c.self.view_is in
    let variables_is : c.self.inside.variables ≡ c.args.self.now.variables = ap (λ (p : PropagatorView). p.variables) c.self.view_is in
    let count : length c.args.self.now.lists.lists ≡ 2 * (c.args.self.now.variables + 1) =
    subst (λ (v : ListsView). length v.lists ≡ 2 * (c.args.self.now.variables + 1)) lists_is (c.self.invariant.count ∙ ap (λ n. 2 * (n + 1)) variables_is) in
    record { ready = subst (λ v. IsReady clauses v mid) (sym lists_is) (begun clauses c.args.self.now old mid c.requires.settled e.trail c.requires.clauses count c.requires.variables e.same e.steps) }

pub returns-in-Some : goal.returns-in-Some
unfolding IsSettled
returns-in-Some c =
    let clauses = c.args.arena.now.clauses in
    let old : TrailView = c.args.trail.now in
    let mid : TrailView = c.take_up-short.new.trail in
    let e = c.take_up-short.ensures in
    let last : TrailView = c.follow-wrong.new.trail in
    let new : TrailView = c.unmark.new.trail in
    let f = c.follow-wrong.ensures in
    let is : new ≡ record last { seen = marks_after c.take_up-short.result last.seen } = c.unmark.ensures in
    let known : c.self.inside.known ≡ length clauses = ap (λ (p : PropagatorView). p.known) c.self.view_is ∙ c.requires.settled.watches.known in
    let made : PropagatorView = record { variables = c.self.inside.variables; known = c.self.inside.known; places = c.self.inside.places; lists = c.follow-wrong.new.watches } in
    record {
      settled = end_done clauses made mid last new c.take_up-short.result c.in_default.not-Wrong e.outcome known f.ready f.steps is;
      steps = subst (λ (t : TrailView). Propagates clauses old.items t.items) (sym is) (and_then clauses old.items mid.items last.items e.steps f.steps);
      outcome = subst (λ (t : TrailView). IsFalseOf clauses t.items c.in-Some.id) (sym is) c.in-Some.ensures.outcome;
      trail = subst (λ (t : TrailView). IsTrail t.variables t.items t.level) (sym is) f.ready.stands;
      level = ap (λ (t : TrailView). t.level) is ∙ f.level ∙ e.same.level;
      variables = ap (λ (t : TrailView). t.variables) is ∙ f.variables ∙ e.same.variables;
      known = ap (λ (p : PropagatorView). p.known) c.self.view_is;
      places = ap (λ (p : PropagatorView). p.places) c.self.view_is;
      own_variables = ap (λ (p : PropagatorView). p.variables) c.self.view_is;
    }

pub returns : goal.returns
unfolding IsSettled
returns c =
    let clauses = c.args.arena.now.clauses in
    let old : TrailView = c.args.trail.now in
    let mid : TrailView = c.take_up-short.new.trail in
    let e = c.take_up-short.ensures in
    let last : TrailView = c.follow-wrong.new.trail in
    let new : TrailView = c.unmark.new.trail in
    let f = c.follow-wrong.ensures in
    let is : new ≡ record last { seen = marks_after c.take_up-short.result last.seen } = c.unmark.ensures in
    let known : c.self.inside.known ≡ length clauses = ap (λ (p : PropagatorView). p.known) c.self.view_is ∙ c.requires.settled.watches.known in
    let made : PropagatorView = record { variables = c.self.inside.variables; known = c.self.inside.known; places = c.self.inside.places; lists = c.follow-wrong.new.watches } in
    record {
      settled = end_done clauses made mid last new c.take_up-short.result c.in_default.not-Wrong e.outcome known f.ready f.steps is;
      steps = subst (λ (t : TrailView). Propagates clauses old.items t.items) (sym is) (and_then clauses old.items mid.items last.items e.steps f.steps);
      outcome = end_quiet clauses c.follow-wrong.new.watches mid last new c.take_up-short.result c.in_default.not-Wrong e.outcome f.ready f.steps c.in_default-wrong.ensures.outcome is;
      trail = subst (λ (t : TrailView). IsTrail t.variables t.items t.level) (sym is) f.ready.stands;
      level = ap (λ (t : TrailView). t.level) is ∙ f.level ∙ e.same.level;
      variables = ap (λ (t : TrailView). t.variables) is ∙ f.variables ∙ e.same.variables;
      known = ap (λ (p : PropagatorView). p.known) c.self.view_is;
      places = ap (λ (p : PropagatorView). p.places) c.self.view_is;
      own_variables = ap (λ (p : PropagatorView). p.variables) c.self.view_is;
    }
