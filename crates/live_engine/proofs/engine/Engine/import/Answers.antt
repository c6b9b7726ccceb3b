use Rattle.std.proofs.Common.{sym, ap, subst, subst₂, ◌∙◌}
use Rattle.live_engine.specs.Engines.{EngineView, IsInPhase, engine_view}
use Rattle.live_engine.specs.Lemmas.{HasImported}
use Rattle.live_engine.proofs.Views.{idle_phase}
use Rattle.live_engine.proofs.Imported.{has_imported}
use Rattle.live_engine.proofs.engine.Engine.import.Goals as goal

pub returns-clause-imports : goal.returns-clause-imports
returns-clause-imports c =
    let e = c.self.inside in
    let idle = idle_phase e.search e.phase (ap (λ (v : EngineView). v.job) c.self.view_is ∙ c.requires.idle) in
    let h = subst (IsInPhase e.search) idle c.self.invariant.state in
    subst₂ (λ v w. HasImported v w c.args.lits.now c.in_ok-refuted.refuted)
    (ap (engine_view e.subject.value e.search) (sym idle) ∙ c.self.view_is) (ap (engine_view e.subject.value c.skip_lemmas.new.self) (sym idle))
    (has_imported e.subject.value e.search c.self.invariant.of h c.args.lits.now c.in_ok-refuted.refuted c.import.new.self c.in_ok-refuted.ensures.imports c.skip_lemmas.new.self c.skip_lemmas.ensures)
