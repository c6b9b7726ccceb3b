use Rattle.std.proofs.Common.{arith}
use Rattle.chrono_trail.proofs.Back.{all_low}
use Rattle.chrono_trail.proofs.laws.none_is_above_the_current_level.Goals as goal

pub returns : goal.returns
returns _ n items level trail = let current = trail.current in all_low 0 level items trail.stands (omega arith)
