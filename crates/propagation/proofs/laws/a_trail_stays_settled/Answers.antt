use Rattle.propagation.proofs.Settled.{settled_watches, settled_unseen, settled_clear, settled_push, settled_back}
use Rattle.propagation.proofs.laws.a_trail_stays_settled.Goals as goal

pub returns-clause-watches : goal.returns-clause-watches
returns-clause-watches _ = settled_watches

pub returns-clause-unseen : goal.returns-clause-unseen
returns-clause-unseen _ = settled_unseen

pub returns-clause-appending : goal.returns-clause-appending
returns-clause-appending _ = settled_push

pub returns-clause-backtracking : goal.returns-clause-backtracking
returns-clause-backtracking _ = settled_back

pub returns-clause-clearing : goal.returns-clause-clearing
returns-clause-clearing _ = settled_clear
