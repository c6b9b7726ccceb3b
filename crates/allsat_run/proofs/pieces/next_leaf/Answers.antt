use Rattle.std.proofs.Common.{◌≡◌, ◌≢◌, None}
use Rattle.std.proofs.lemmas.Result.{IfOk-weaker}
use Rattle.live_engine.specs.Engines.{Leafs}
use Rattle.allsat_run.proofs.Jobs.{leaf_runs, leaf_subject}
use Rattle.allsat_run.proofs.pieces.next_leaf.Goals as goal

pub returns-clause-runs : goal.returns-clause-runs
returns-clause-runs c =
    let old = c.args.engine.now in
    let new = c.leaf.new.self in
    IfOk-weaker c.leaf.result (Leafs old new) (λ _. new.job ≢ None)
    (λ leaf h. leaf_runs old new leaf h c.requires) c.leaf.ensures.leaf

pub returns-clause-subject : goal.returns-clause-subject
returns-clause-subject c =
    let old = c.args.engine.now in
    let new = c.leaf.new.self in
    IfOk-weaker c.leaf.result (Leafs old new) (λ _. new.subject ≡ old.subject)
    (leaf_subject old new) c.leaf.ensures.leaf
