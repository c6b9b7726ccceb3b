use Rattle.chrono_trail.proofs.Pairs.{pair_at_rest}
use Rattle.chrono_trail.proofs.laws.pairs_are_at_rest.Goals as goal

pub returns : goal.returns
returns _ = pair_at_rest
