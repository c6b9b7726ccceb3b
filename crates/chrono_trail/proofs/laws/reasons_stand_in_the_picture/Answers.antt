use Rattle.chrono_trail.proofs.Reasons.{pictured_reason}
use Rattle.chrono_trail.proofs.laws.reasons_stand_in_the_picture.Goals as goal

pub returns : goal.returns
returns _ = pictured_reason
