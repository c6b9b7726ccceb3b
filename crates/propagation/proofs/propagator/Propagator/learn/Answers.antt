use Rattle.std.proofs.Common.{◌≡◌, [], get_or, take, sym, ap, subst, ◌∙◌}
use Rattle.watch_lists.specs.Watching.{IsWatching, attached}
use Rattle.propagation.specs.Settled.{IsSettled, PropagatorView}
use Rattle.propagation.specs.Walking.{IsUnseenFor}
use Rattle.propagation.proofs.Ends.{learnt_done}
use Rattle.propagation.proofs.propagator.Propagator.learn.Goals as goal

pub attach-requires-clause-watching : goal.attach-requires-clause-watching
unfolding IsSettled
attach-requires-clause-watching c =
    subst (λ v. IsWatching v (take c.args.id c.args.arena.now.clauses)) (sym (ap (λ (p : PropagatorView). p.lists) c.self.view_is)) c.requires.settled.watches.watching

pub returns-clause-settled : goal.returns-clause-settled
unfolding IsSettled
returns-clause-settled c =
    let clauses = c.args.arena.now.clauses in
    let lists_is : c.self.inside.watches ≡ c.args.self.now.lists = ap (λ (p : PropagatorView). p.lists) c.self.view_is in
    let joined : c.attach.new.self ≡ attached c.args.id (get_or clauses c.args.id []) c.args.self.now.lists =
    c.in_ok-attach.ensures.attached ∙ ap (attached c.args.id (get_or clauses c.args.id [])) lists_is in
    learnt_done clauses c.args.id c.args.self.now (record { variables = c.self.inside.variables; known = c.len-known.result; places = c.max-self-inside.result; lists = c.attach.new.self })
    c.args.trail.now c.unsee.new.trail c.requires.settled c.requires.added c.len-known.ensures.length c.in_ok-attach.ensures.watching joined
    c.unsee.ensures.seen c.unsee.ensures.trail (subst (IsUnseenFor c.unsee.new.trail) c.lits.ensures.clause c.unsee.ensures.unseen)
