use Rattle.search_job.proofs.Fits.{working_fits}
use Rattle.search_job.proofs.laws.working_fits.Goals as goal

pub returns : goal.returns
returns c = working_fits
