use Rattle.std.proofs.Common.{sym, ap, subst, subst₂, ◌∙◌}
use Rattle.std.proofs.lemmas.Result.{IfOk-weaker}
use Rattle.live_engine.specs.Engines.{FitsJob, IsInPhase, engine_view}
use Rattle.live_engine.specs.Gives.{HandsOutOrNot, GivesOrNot}
use Rattle.live_engine.proofs.Views.{job_runs, job_over}
use Rattle.live_engine.proofs.Gifts.{gives_or_not, searches_on}
use Rattle.live_engine.proofs.engine.Engine.give.Goals as goal

pub returns-in-Over-clause-fits : goal.returns-in-Over-clause-fits
returns-in-Over-clause-fits c =
    let e = c.self.inside in
    subst FitsJob (ap (engine_view e.subject.value e.search) (sym c.in-Over.is) ∙ c.self.view_is)
    (job_over e.subject.value e.search c.self.invariant.of (subst (IsInPhase e.search) c.in-Over.is c.self.invariant.state))

pub returns-in-Running-clause-gives : goal.returns-in-Running-clause-gives
returns-in-Running-clause-gives c =
    let e = c.self.inside in
    let new = c.give.new.self in
    IfOk-weaker c.give.result (HandsOutOrNot e.search new) (GivesOrNot c.args.self.now (engine_view e.subject.value new e.phase))
    (λ o g. subst₂ (λ v w. GivesOrNot v w o) (ap (engine_view e.subject.value e.search) (sym c.in-Running.is) ∙ c.self.view_is)
    (ap (engine_view e.subject.value new) (sym c.in-Running.is)) (gives_or_not e.subject.value e.search c.self.invariant.of new o g)) c.give.ensures.gives

pub returns-in-Running-clause-fits : goal.returns-in-Running-clause-fits
returns-in-Running-clause-fits c =
    let e = c.self.inside in
    let new = c.give.new.self in
    let h = subst (IsInPhase e.search) c.in-Running.is c.self.invariant.state in
    IfOk-weaker c.give.result (HandsOutOrNot e.search new) (λ o. FitsJob (engine_view e.subject.value new e.phase))
    (λ o g. let on = searches_on e.subject.value e.search c.self.invariant.of h new o g in
    subst FitsJob (ap (engine_view e.subject.value new) (sym c.in-Running.is)) (job_runs e.subject.value new on.0 on.1)) c.give.ensures.gives
