use Rattle.std.proofs.Common.{◌≡◌, [], None, ap}
use Rattle.std.proofs.lemmas.Result.{IfOk-weaker}
use Rattle.live_engine.specs.Engines.{EngineView}
use Rattle.allsat_run.proofs.pieces.end.Goals as goal

abbrev exposed : EngineView → EngineView
exposed e = record e { job = None; found = []; untried = []; here = None; leaves = 0; model = e.model }

pub returns-clause-idle : goal.returns-clause-idle
returns-clause-idle c =
    let old = c.args.engine.now in
    let new = c.expose.new.self in
    IfOk-weaker c.expose.result (λ _. new ≡ exposed old) (λ _. new.job ≡ None)
    (λ _ h. ap (λ (e : EngineView). e.job) h) c.expose.ensures.ended

pub returns-clause-subject : goal.returns-clause-subject
returns-clause-subject c =
    let old = c.args.engine.now in
    let new = c.expose.new.self in
    IfOk-weaker c.expose.result (λ _. new ≡ exposed old) (λ _. new.subject ≡ old.subject)
    (λ _ h. ap (λ (e : EngineView). e.subject) h) c.expose.ensures.ended
