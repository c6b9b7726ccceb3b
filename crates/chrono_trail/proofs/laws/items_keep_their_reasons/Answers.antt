use Rattle.chrono_trail.proofs.Reasoned.{appending_keeps, backtracking_keeps, more_clauses_keep}
use Rattle.chrono_trail.proofs.laws.items_keep_their_reasons.Goals as goal

pub returns-clause-appending : goal.returns-clause-appending
returns-clause-appending _ = appending_keeps

pub returns-clause-backtracking : goal.returns-clause-backtracking
returns-clause-backtracking _ = backtracking_keeps

pub returns-clause-growing : goal.returns-clause-growing
returns-clause-growing _ = more_clauses_keep
