use Rattle.drill.proofs.Good.{drills_are_good}
use Rattle.drill.proofs.laws.drills_are_good.Goals as goal

pub returns : goal.returns
returns c = drills_are_good
