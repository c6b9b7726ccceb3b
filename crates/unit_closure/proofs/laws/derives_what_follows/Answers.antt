use Rattle.unit_closure.proofs.Follows.{derives_what_follows}
use Rattle.unit_closure.proofs.laws.derives_what_follows.Goals as goal

pub returns : goal.returns
returns c = derives_what_follows
