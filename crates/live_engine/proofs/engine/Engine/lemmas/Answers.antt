use Rattle.std.proofs.Common.{◌≡◌, ◌-◌, length, ap₂, subst, ◌∙◌}
use Rattle.live_engine.specs.Engines.{EngineView}
use Rattle.live_engine.proofs.Imported.{formula_count}
use Rattle.live_engine.proofs.engine.Engine.lemmas.Goals as goal

pub returns : goal.returns
returns c =
    let e = c.self.inside in
    let count = formula_count e.subject.value e.search c.self.invariant.of c.base.ensures.within in
    subst (λ (v : EngineView). c.len.result - c.base.result ≡ length v.clauses - length v.subject.formula.clauses) c.self.view_is
    (ap₂ (λ m n. m - n) c.len.ensures.length (c.base.ensures.base ∙ count))
