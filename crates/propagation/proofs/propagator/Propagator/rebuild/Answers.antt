use Rattle.propagation.specs.Settled.{Watches}
use Rattle.propagation.proofs.propagator.Propagator.rebuild.Goals as goal

pub returns-clause-watches : goal.returns-clause-watches
unfolding Watches
returns-clause-watches c = record { known = c.len-self-inside.ensures.length; watching = c.rebuild.ensures.watching }
