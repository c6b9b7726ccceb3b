use Rattle.search_job.proofs.Turn.{turn_keeps_running}
use Rattle.search_job.proofs.laws.turn_keeps_running.Goals as goal

pub returns : goal.returns
returns c = turn_keeps_running
