use Rattle.allsat_run.proofs.sharing.share.Goals as goal

pub returns : goal.returns
returns g c = record { closed = c.close.result; basis = c.close.ensures.basis; ends = c.sweep_rest.ensures }
