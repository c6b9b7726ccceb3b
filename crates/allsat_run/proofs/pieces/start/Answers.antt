use Rattle.std.proofs.Common.{◌≡◌, ◌≢◌, None}
use Rattle.std.proofs.lemmas.Result.{IfOk-weaker}
use Rattle.live_engine.specs.Engines.{HasStarted}
use Rattle.allsat_run.proofs.Jobs.{start_runs}
use Rattle.allsat_run.proofs.pieces.start.Goals as goal

pub returns-clause-runs : goal.returns-clause-runs
returns-clause-runs c =
    let old = c.args.engine.now in
    let new = c.start.new.self in
    IfOk-weaker c.start.result (λ _. HasStarted old new c.args.prefix.now) (λ _. new.job ≢ None)
    (λ _ h. start_runs old new c.args.prefix.now h) c.start.ensures.started

pub returns-clause-subject : goal.returns-clause-subject
returns-clause-subject c =
    let old = c.args.engine.now in
    let new = c.start.new.self in
    IfOk-weaker c.start.result (λ _. HasStarted old new c.args.prefix.now) (λ _. new.subject ≡ old.subject)
    (λ _ h. h.subject) c.start.ensures.started
