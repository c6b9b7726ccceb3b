use Rattle.prefix_jobs.proofs.Joined.{expose_fits_prefix}
use Rattle.prefix_jobs.proofs.laws.expose_fits_prefix.Goals as goal

pub returns : goal.returns
returns c = expose_fits_prefix
