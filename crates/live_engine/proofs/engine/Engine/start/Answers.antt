use Rattle.std.proofs.Common.{sym, ap, subst, ◌∙◌, ◌≡◌, ◌+◌, length}
use Rattle.sat_terms.specs.Cubes.{IsCube}
use Rattle.live_engine.specs.declared.search.Search.{Search}
use Rattle.live_engine.specs.Engines.{EngineView, HasStarted, IsInPhase, engine_view}
use Rattle.live_engine.specs.Starts.{Begins}
use Rattle.live_engine.specs.declared.search.Phase.TheVariants.{Idle, Running}
use Rattle.live_engine.proofs.Views.{starts, idle_phase}
use Rattle.live_engine.proofs.engine.Engine.start.Goals as goal

pub returns-clause-started : goal.returns-clause-started
returns-clause-started c =
    let e = c.self.inside in
    let idle = idle_phase e.search e.phase (ap (λ (v : EngineView). v.job) c.self.view_is ∙ c.requires.idle) in
    let h = subst (IsInPhase e.search) idle c.self.invariant.state in
    let new = c.skip_lemmas.new.self in
    let all = subst (λ (n : Search). n.arena.base + new.sent ≡ length n.arena.clauses) c.skip_lemmas.ensures.rest c.skip_lemmas.ensures.all in
    subst (λ v. HasStarted v (engine_view e.subject.value new Running) c.args.prefix.now)
    (ap (engine_view e.subject.value e.search) (sym idle) ∙ c.self.view_is)
    (subst (λ (n : Search). HasStarted (engine_view e.subject.value e.search Idle) (engine_view e.subject.value n Running) c.args.prefix.now) (sym c.skip_lemmas.ensures.rest)
    (starts e.subject.value e.search c.begin.new.self c.args.prefix.now new.sent c.self.invariant.of h.ground.shown (subst (λ p. IsCube p c.args.prefix.now) (sym (c.self.invariant.of.shown ∙ ap (λ (v : EngineView). v.subject.shown) c.self.view_is)) c.requires.prefix) h.found
    (subst (Begins e.search c.begin.new.self) c.in_ok-prefix.ensures c.begin.ensures) all))
