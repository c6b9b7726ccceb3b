use Rattle.cube_check.proofs.Sound.{sound}
use Rattle.cube_check.proofs.laws.a_right_verdict_is_sound.Goals as goal

pub returns : goal.returns
returns c = λ n f p met formula shown told verdict. sound n f p met formula shown told verdict
