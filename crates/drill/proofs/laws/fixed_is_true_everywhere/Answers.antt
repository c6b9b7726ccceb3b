use Rattle.drill.proofs.Fixed.{fixed_is_true_everywhere}
use Rattle.drill.proofs.laws.fixed_is_true_everywhere.Goals as goal

pub returns : goal.returns
returns c = fixed_is_true_everywhere
