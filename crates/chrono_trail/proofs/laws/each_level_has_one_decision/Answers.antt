use Rattle.std.proofs.Common.{◌≤◌, subst}
use Rattle.chrono_trail.proofs.Levels.{one_decision}
use Rattle.chrono_trail.proofs.laws.each_level_has_one_decision.Goals as goal

pub returns : goal.returns
returns _ n items level k trail above below = one_decision 0 k items trail.stands above (subst (λ m. k ≤ m) trail.current below)
