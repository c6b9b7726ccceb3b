use Rattle.std.proofs.Common.{◌≡◌, sym, subst}
use Rattle.region_ledger.specs.Hands.{held, IsHandOf}
use Rattle.region_ledger.proofs.Turns.{hand_after, held_same}
use Rattle.region_ledger.proofs.ledger.Turned+Book.state.Goals as goal

pub returns-clause-hand : goal.returns-clause-hand
returns-clause-hand g c =
    let t = c.turn.ensures.turn in
    subst (λ l. IsHandOf l c.turn.new.pass) c.self.view_is
    (hand_after _ c.self.inside.cell c.args.pass.now c.turn.new.pass c.turn.result (subst (λ l. IsHandOf l c.args.pass.now) (sym c.self.view_is) c.requires) t c.turn.ensures.pass t.did.0.is)

pub returns-clause-holds : goal.returns-clause-holds
returns-clause-holds g c =
    let t = c.turn.ensures.turn in
    subst (λ l. held l c.turn.new.pass ≡ held l c.args.pass.now) c.self.view_is
    (held_same _ c.self.inside.cell c.args.pass.now c.turn.new.pass c.turn.result (subst (λ l. IsHandOf l c.args.pass.now) (sym c.self.view_is) c.requires) t t.did.0.did)
