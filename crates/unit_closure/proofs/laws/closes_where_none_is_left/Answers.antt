use Rattle.unit_closure.proofs.Follows.{closes_where_none_is_left}
use Rattle.unit_closure.proofs.laws.closes_where_none_is_left.Goals as goal

pub returns : goal.returns
returns c = closes_where_none_is_left
