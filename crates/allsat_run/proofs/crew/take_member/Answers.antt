use Rattle.allsat_run.specs.Crews.{IsSeated}
use Rattle.allsat_run.proofs.Crews.{last_of_all, rest_of_all}
use Rattle.allsat_run.proofs.crew.take_member.Goals as goal

pub returns-clause-ready : goal.returns-clause-ready
returns-clause-ready c = last_of_all (IsSeated c.args.ledger.now) c.args.members.now.items c.take_last.new.list.items c.take_last.result c.take_last.ensures.last c.requires.ready

pub returns-clause-rest : goal.returns-clause-rest
returns-clause-rest c = rest_of_all (IsSeated c.args.ledger.now) c.args.members.now.items c.take_last.new.list.items c.take_last.result c.take_last.ensures.last c.requires.ready
