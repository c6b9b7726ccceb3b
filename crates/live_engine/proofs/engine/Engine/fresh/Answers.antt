use Rattle.std.proofs.Common.{subst}
use Rattle.live_engine.specs.Engines.{engine_view}
use Rattle.live_engine.specs.Lemmas.{TakesFresh}
use Rattle.live_engine.proofs.Imported.{takes_fresh, fresh_engine}
use Rattle.live_engine.proofs.engine.Engine.fresh.Goals as goal

pub invariant_of-self : goal.invariant_of-self
invariant_of-self c = let e = c.self.inside in
    fresh_engine e.subject.value e.search c.next_unsent.new.self e.phase c.self.invariant c.next_unsent.result c.next_unsent.ensures

pub returns : goal.returns
returns c = let e = c.self.inside in
    subst (λ v. TakesFresh v (engine_view e.subject.value c.next_unsent.new.self e.phase) c.next_unsent.result) c.self.view_is
    (takes_fresh e.subject.value e.search c.next_unsent.new.self e.phase c.next_unsent.result c.next_unsent.ensures)
