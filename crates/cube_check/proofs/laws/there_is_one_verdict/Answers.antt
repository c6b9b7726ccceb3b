use Rattle.cube_check.proofs.OneVerdict.{one_verdict}
use Rattle.cube_check.proofs.laws.there_is_one_verdict.Goals as goal

pub returns : goal.returns
returns c = λ f met v w h k. one_verdict f met v w h k
