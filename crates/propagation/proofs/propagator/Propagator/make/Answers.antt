use Rattle.propagation.specs.Settled.{Watches}
use Rattle.propagation.proofs.propagator.Propagator.make.Goals as goal

pub returns-clause-watches : goal.returns-clause-watches
unfolding Watches
returns-clause-watches c = record { known = c.len-known.ensures.length; watching = c.in_ok-make.ensures.watching }
