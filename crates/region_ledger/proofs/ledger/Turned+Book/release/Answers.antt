use Rattle.std.proofs.Common.{◌≡◌, ◌≢◌, None, sym, subst}
use Rattle.region_ledger.proofs.Turns.{hand_after, held_by_release, due_pass, due_some}
use Rattle.region_ledger.specs.Hands.{held, IsHandOf}
use Rattle.region_ledger.proofs.ledger.Turned+Book.release.Goals as goal
use Rattle.std.specs.List.{find}
use Rattle.region_book.specs.Machine.{has_number, edit_first, taken_out}

pub turn-requires-clause-can : goal.turn-requires-clause-can
turn-requires-clause-can g c = λ x due.
    let l = c.self.inside.cell in
    let p = c.args.pass.now in
    let hand = subst (λ l. IsHandOf l p) (sym c.self.view_is) c.requires.hand in
    (due_pass l p hand x due, due_some l p hand x due c.args.number (subst (λ l. find (has_number c.args.number) (held l p) ≢ None) (sym c.self.view_is) c.requires.held))

pub returns-clause-hand : goal.returns-clause-hand
returns-clause-hand g c =
    let t = c.turn.ensures.turn in
    subst (λ l. IsHandOf l c.turn.new.pass) c.self.view_is
    (hand_after _ c.self.inside.cell c.args.pass.now c.turn.new.pass c.turn.result (subst (λ l. IsHandOf l c.args.pass.now) (sym c.self.view_is) c.requires.hand) t c.turn.ensures.pass t.did.is)

pub returns-clause-holds : goal.returns-clause-holds
returns-clause-holds g c =
    let t = c.turn.ensures.turn in
    subst (λ l. held l c.turn.new.pass ≡ edit_first (has_number c.args.number) taken_out (held l c.args.pass.now)) c.self.view_is
    (held_by_release _ c.self.inside.cell c.args.pass.now c.turn.new.pass c.turn.result (subst (λ l. IsHandOf l c.args.pass.now) (sym c.self.view_is) c.requires.hand) t c.args.number t.did.did)
