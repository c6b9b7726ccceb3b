use Rattle.chrono_trail.proofs.Splits.{decisions_are_found, decisions_are_within, decisions_split, backtracking_frees}
use Rattle.chrono_trail.proofs.laws.a_decision_splits_the_trail.Goals as goal

pub returns-clause-found : goal.returns-clause-found
returns-clause-found _ = decisions_are_found

pub returns-clause-splits : goal.returns-clause-splits
returns-clause-splits _ = decisions_split

pub returns-clause-freed : goal.returns-clause-freed
returns-clause-freed _ = backtracking_frees

pub returns-clause-within : goal.returns-clause-within
returns-clause-within _ = decisions_are_within
