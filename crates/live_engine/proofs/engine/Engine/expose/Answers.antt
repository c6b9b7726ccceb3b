use Rattle.std.proofs.Common.{subst, ◌∙◌, ap}
use Rattle.live_engine.specs.Engines.{FitsJob}
use Rattle.live_engine.proofs.Views.{fits_always, ended}
use Rattle.live_engine.proofs.engine.Engine.expose.Goals as goal

pub invariant_of-self : goal.invariant_of-self
invariant_of-self c = let e = c.self.inside in
    ended e.subject.value e.search e.phase c.self.invariant c.replace-found.new.dest (ap (λ v. v.items) c.replace-found.ensures.after ∙ c.new.ensures.items)

pub returns-clause-fits : goal.returns-clause-fits
returns-clause-fits c = let e = c.self.inside in
    subst FitsJob c.self.view_is (fits_always e.subject.value e.search e.phase c.self.invariant)
