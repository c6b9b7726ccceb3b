use Rattle.allsat_run.proofs.Resumed.{a_stopped_run_goes_on}
use Rattle.allsat_run.proofs.laws.a_stopped_run_goes_on.Goals as goal

pub returns : goal.returns
returns c = a_stopped_run_goes_on
