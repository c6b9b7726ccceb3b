use Rattle.search_region.proofs.Fits.{closed_fits}
use Rattle.search_region.proofs.laws.closed_fits.Goals as goal

pub returns : goal.returns
returns c = closed_fits
