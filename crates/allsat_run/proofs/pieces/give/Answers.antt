use Rattle.std.proofs.Common.{◌≡◌, ◌≢◌, None}
use Rattle.std.proofs.lemmas.Result.{IfOk-weaker}
use Rattle.live_engine.specs.Gives.{GivesOrNot}
use Rattle.allsat_run.proofs.Jobs.{give_runs, give_subject}
use Rattle.allsat_run.proofs.pieces.give.Goals as goal

pub returns-clause-runs : goal.returns-clause-runs
returns-clause-runs c =
    let old = c.args.engine.now in
    let new = c.give.new.self in
    IfOk-weaker c.give.result (GivesOrNot old new) (λ _. new.job ≢ None)
    (λ given h. give_runs old new given h c.requires) c.give.ensures.gives

pub returns-clause-subject : goal.returns-clause-subject
returns-clause-subject c =
    let old = c.args.engine.now in
    let new = c.give.new.self in
    IfOk-weaker c.give.result (GivesOrNot old new) (λ _. new.subject ≡ old.subject)
    (give_subject old new) c.give.ensures.gives
