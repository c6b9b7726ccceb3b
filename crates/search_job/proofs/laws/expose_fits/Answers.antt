use Rattle.search_job.proofs.Open.{expose_fits}
use Rattle.search_job.proofs.laws.expose_fits.Goals as goal

pub returns : goal.returns
returns c = λ f p n base count q trail found leaves up named. expose_fits f p up named base n count q trail found leaves
