use Rattle.search_region.proofs.Fits.{running_fits}
use Rattle.search_region.proofs.laws.running_fits.Goals as goal

pub returns : goal.returns
returns c = running_fits
