use Rattle.chrono_trail.proofs.Levels.{none_above}
use Rattle.chrono_trail.proofs.laws.none_is_above_its_place.Goals as goal

pub returns : goal.returns
returns _ n before i after level trail = none_above 0 before i after trail.stands
