use Rattle.sat_terms.proofs.Once.{only_place}
use Rattle.sat_terms.proofs.laws.right_lists_hold_each_once.Goals as goal

pub returns : goal.returns
returns _ f p u cubes right a whole wanted = only_place p a cubes right.over right.disjoint ((right.exact a whole).1 wanted)
