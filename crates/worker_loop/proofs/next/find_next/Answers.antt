use Rattle.worker_loop.proofs.next.find_next.Goals as goal

pub returns-in-Ok-None-clause-next : goal.returns-in-Ok-None-clause-next
returns-in-Ok-None-clause-next g c = c.look_again.ensures.next c.args.stop.now
