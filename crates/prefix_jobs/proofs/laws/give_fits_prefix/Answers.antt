use Rattle.prefix_jobs.proofs.Joined.{give_fits_prefix}
use Rattle.prefix_jobs.proofs.laws.give_fits_prefix.Goals as goal

pub returns : goal.returns
returns c = give_fits_prefix
