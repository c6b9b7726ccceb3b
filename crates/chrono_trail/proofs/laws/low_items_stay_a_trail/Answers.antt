use Rattle.chrono_trail.proofs.Back.{trail_back}
use Rattle.chrono_trail.proofs.laws.low_items_stay_a_trail.Goals as goal

pub returns : goal.returns
returns _ n items level k trail low = trail_back n items level k trail low
