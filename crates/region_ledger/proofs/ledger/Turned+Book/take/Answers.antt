use Rattle.std.proofs.Common.{◌≡◌, List, [], ℤ, Some, IfOk, IfErr, sym, subst}
use Rattle.region_ledger.proofs.Turns.{hand_after, held_by_take, cube_by_take, same_by_take}
use Rattle.region_ledger.specs.Hands.{subject_of, held, IsHandOf, holding}
use Rattle.region_ledger.specs.Calls.{prefix_taken}
use Rattle.sat_terms.specs.Cubes.{IsCube}
use Rattle.region_ledger.proofs.ledger.Turned+Book.take.Goals as goal

pub returns-clause-hand : goal.returns-clause-hand
returns-clause-hand g c =
    let t = c.turn.ensures.turn in
    subst (λ l. IsHandOf l c.turn.new.pass) c.self.view_is
    (hand_after _ c.self.inside.cell c.args.pass.now c.turn.new.pass c.turn.result (subst (λ l. IsHandOf l c.args.pass.now) (sym c.self.view_is) c.requires) t c.turn.ensures.pass t.did.is)

pub returns-clause-cube : goal.returns-clause-cube
returns-clause-cube g c =
    let t = c.turn.ensures.turn in
    subst (λ l. IfOk c.turn.result (λ taken. (d : List ℤ) → prefix_taken taken ≡ Some d → IsCube (subject_of l).shown d)) c.self.view_is
    (cube_by_take _ c.self.inside.cell c.args.pass.now c.turn.new.pass c.turn.result (subst (λ l. IsHandOf l c.args.pass.now) (sym c.self.view_is) c.requires) t t.did.was c.args.number c.turn.result t.did.did)

pub returns-clause-holds : goal.returns-clause-holds
returns-clause-holds g c =
    let t = c.turn.ensures.turn in
    subst (λ l. IfOk c.turn.result (λ taken. held l c.args.pass.now ≡ [] → held l c.turn.new.pass ≡ holding c.args.pass.now.number c.args.number (prefix_taken taken))) c.self.view_is
    (held_by_take _ c.self.inside.cell c.args.pass.now c.turn.new.pass c.turn.result (subst (λ l. IsHandOf l c.args.pass.now) (sym c.self.view_is) c.requires) t c.args.number c.turn.result t.did.did)

pub returns-clause-unchanged : goal.returns-clause-unchanged
returns-clause-unchanged g c =
    let t = c.turn.ensures.turn in
    subst (λ l. IfErr c.turn.result (λ _. held l c.turn.new.pass ≡ held l c.args.pass.now)) c.self.view_is
    (same_by_take _ c.self.inside.cell c.args.pass.now c.turn.new.pass c.turn.result (subst (λ l. IsHandOf l c.args.pass.now) (sym c.self.view_is) c.requires) t c.args.number c.turn.result t.did.did)
