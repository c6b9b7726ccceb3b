use Rattle.allsat_run.specs.Crews.{IsTool}
use Rattle.allsat_run.proofs.Crews.{last_of_all}
use Rattle.allsat_run.proofs.crew.last_engine.Goals as goal

pub returns-clause-same : goal.returns-clause-same
returns-clause-same c = (last_of_all (IsTool c.args.book.now.subject) c.args.tools.items c.take_last-engine.new.list.items c.take_last-engine.result c.take_last-engine.ensures.last c.requires.tools).same

pub returns-clause-idle : goal.returns-clause-idle
returns-clause-idle c = (last_of_all (IsTool c.args.book.now.subject) c.args.tools.items c.take_last-engine.new.list.items c.take_last-engine.result c.take_last-engine.ensures.last c.requires.tools).idle
