use Rattle.search_region.proofs.Decide.{decide_keeps_running}
use Rattle.search_region.proofs.laws.decide_keeps_running.Goals as goal

pub returns : goal.returns
returns c = decide_keeps_running
