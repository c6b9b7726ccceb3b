use Rattle.projected_decide.proofs.Lowest.{decisions_are_lowest, none_means_full}
use Rattle.projected_decide.proofs.laws.the_lowest_free_variable_is_next.Goals as goal

pub returns-clause-lowest : goal.returns-clause-lowest
returns-clause-lowest c = decisions_are_lowest

pub returns-clause-none : goal.returns-clause-none
returns-clause-none c = none_means_full
