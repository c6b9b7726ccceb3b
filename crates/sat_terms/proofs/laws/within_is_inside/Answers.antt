use Rattle.sat_terms.proofs.Inside.{within-from_inside, inside-from_within}
use Rattle.sat_terms.proofs.laws.within_is_inside.Goals as goal

pub returns : goal.returns
returns c = λ p d q cube named. (λ h. inside-from_within d q h, within-from_inside d q cube.rising named)
