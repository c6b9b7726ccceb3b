use Rattle.prefix_jobs.proofs.Joined.{fits_from_counts}
use Rattle.prefix_jobs.proofs.laws.fits_from_counts.Goals as goal

pub returns : goal.returns
returns c = fits_from_counts
