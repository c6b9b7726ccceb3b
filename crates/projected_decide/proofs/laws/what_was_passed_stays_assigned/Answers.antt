use Rattle.projected_decide.proofs.Moving.{appending_keeps_passed, putting_back_keeps_passed}
use Rattle.projected_decide.proofs.laws.what_was_passed_stays_assigned.Goals as goal

pub returns-clause-appending : goal.returns-clause-appending
returns-clause-appending c = appending_keeps_passed

pub returns-clause-putting_back : goal.returns-clause-putting_back
returns-clause-putting_back c = putting_back_keeps_passed
