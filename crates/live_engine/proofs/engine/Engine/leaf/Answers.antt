use Rattle.std.proofs.Common.{sym, ap, subst, subst₂, ◌∙◌}
use Rattle.live_engine.specs.Engines.{Leafs, FitsJob, IsInPhase, engine_view}
use Rattle.live_engine.specs.Steps.{ComesTo}
use Rattle.live_engine.specs.declared.search.Phase.TheVariants.{Over}
use Rattle.live_engine.proofs.Views.{job_runs, job_over, of_leaf, leaf_goes, leaf_last}
use Rattle.live_engine.proofs.engine.Engine.leaf.Goals as goal

pub returns-in-Over-clause-fits : goal.returns-in-Over-clause-fits
returns-in-Over-clause-fits c =
    let e = c.self.inside in
    subst FitsJob (ap (engine_view e.subject.value e.search) (sym c.in-Over.is) ∙ c.self.view_is)
    (job_over e.subject.value e.search c.self.invariant.of (subst (IsInPhase e.search) c.in-Over.is c.self.invariant.state))

pub returns-in-Goes-clause-leaf : goal.returns-in-Goes-clause-leaf
returns-in-Goes-clause-leaf c =
    let e = c.self.inside in
    let new = c.next_leaf.new.self in
    let h = subst (IsInPhase e.search) c.in-Running.is c.self.invariant.state in
    let comes = subst (ComesTo (record e.search { found = c.reserve-in-Running.new.self }) new) c.in-Goes.is c.next_leaf.ensures in
    subst₂ (λ v w. Leafs v w c.in-Goes.leaf) (ap (engine_view e.subject.value e.search) (sym c.in-Running.is) ∙ c.self.view_is)
    (ap (engine_view e.subject.value new) (sym c.in-Running.is))
    (leaf_goes e.subject.value e.search c.self.invariant.of h c.reserve-in-Running.new.self c.reserve-in-Running.ensures.items c.self.invariant.sent new c.in-Goes.leaf comes)

pub returns-in-Goes-clause-fits : goal.returns-in-Goes-clause-fits
returns-in-Goes-clause-fits c =
    let e = c.self.inside in
    let new = c.next_leaf.new.self in
    let h = subst (IsInPhase e.search) c.in-Running.is c.self.invariant.state in
    let comes = subst (ComesTo (record e.search { found = c.reserve-in-Running.new.self }) new) c.in-Goes.is c.next_leaf.ensures in
    subst FitsJob (ap (engine_view e.subject.value new) (sym c.in-Running.is))
    (job_runs e.subject.value new (of_leaf e.subject.value e.search c.self.invariant.of h c.reserve-in-Running.new.self c.reserve-in-Running.ensures.items c.self.invariant.sent new comes.job) comes.searching)

pub returns-in-Last-clause-leaf : goal.returns-in-Last-clause-leaf
returns-in-Last-clause-leaf c =
    let e = c.self.inside in
    let new = c.next_leaf.new.self in
    let h = subst (IsInPhase e.search) c.in-Running.is c.self.invariant.state in
    let comes = subst (ComesTo (record e.search { found = c.reserve-in-Running.new.self }) new) c.in-Last.is c.next_leaf.ensures in
    subst (λ v. Leafs v (engine_view e.subject.value new Over) c.in-Last.leaf) (ap (engine_view e.subject.value e.search) (sym c.in-Running.is) ∙ c.self.view_is)
    (leaf_last e.subject.value e.search c.self.invariant.of h c.reserve-in-Running.new.self c.reserve-in-Running.ensures.items c.self.invariant.sent new c.in-Last.leaf comes)

pub returns-in-Last-clause-fits : goal.returns-in-Last-clause-fits
returns-in-Last-clause-fits c =
    let e = c.self.inside in
    let new = c.next_leaf.new.self in
    let h = subst (IsInPhase e.search) c.in-Running.is c.self.invariant.state in
    let comes = subst (ComesTo (record e.search { found = c.reserve-in-Running.new.self }) new) c.in-Last.is c.next_leaf.ensures in
    job_over e.subject.value new (of_leaf e.subject.value e.search c.self.invariant.of h c.reserve-in-Running.new.self c.reserve-in-Running.ensures.items c.self.invariant.sent new comes.job) comes.closed
