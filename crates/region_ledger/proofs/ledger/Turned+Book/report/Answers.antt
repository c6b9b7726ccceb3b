use Rattle.std.proofs.Common.{◌≡◌, ◌++◌, length, IfOk, IfErr, sym, subst}
use Rattle.region_ledger.proofs.Turns.{hand_after, held_by_report, same_by_report, due_pass, due_fits}
use Rattle.region_ledger.specs.Hands.{subject_of, held, IsHandOf}
use Rattle.region_ledger.proofs.ledger.Turned+Book.report.Goals as goal
use Rattle.std.specs.List.{find}
use Rattle.region_book.specs.Machine.{FitsFound, has_number, edit_first, taken_out, kept_part}

pub turn-requires-clause-can : goal.turn-requires-clause-can
turn-requires-clause-can g c = λ x due.
    let l = c.self.inside.cell in
    let p = c.args.pass.now in
    let hand = subst (λ l. IsHandOf l p) (sym c.self.view_is) c.requires.hand in
    (due_pass l p hand x due, due_fits l p hand x due c.args.number c.args.outcome (subst (λ l. FitsFound (subject_of l).formula.clauses (subject_of l).shown (find (has_number c.args.number) (held l p)) c.args.outcome) (sym c.self.view_is) c.requires.fits))

pub returns-clause-hand : goal.returns-clause-hand
returns-clause-hand g c =
    let t = c.turn.ensures.turn in
    subst (λ l. IsHandOf l c.turn.new.pass) c.self.view_is
    (hand_after _ c.self.inside.cell c.args.pass.now c.turn.new.pass c.turn.result (subst (λ l. IsHandOf l c.args.pass.now) (sym c.self.view_is) c.requires.hand) t c.turn.ensures.pass t.did.is)

pub returns-clause-holds : goal.returns-clause-holds
returns-clause-holds g c =
    let t = c.turn.ensures.turn in
    subst (λ l. IfOk c.turn.result (λ said. held l c.turn.new.pass ≡ edit_first (has_number c.args.number) taken_out (held l c.args.pass.now) ++ kept_part said.place (length c.args.outcome.rest) c.args.pass.now.number c.args.outcome.kept)) c.self.view_is
    (held_by_report _ c.self.inside.cell c.args.pass.now c.turn.new.pass c.turn.result (subst (λ l. IsHandOf l c.args.pass.now) (sym c.self.view_is) c.requires.hand) t c.args.number c.args.outcome c.turn.result (subst (λ l. FitsFound (subject_of l).formula.clauses (subject_of l).shown (find (has_number c.args.number) (held l c.args.pass.now)) c.args.outcome) (sym c.self.view_is) c.requires.fits) t.did.did)

pub returns-clause-unchanged : goal.returns-clause-unchanged
returns-clause-unchanged g c =
    let t = c.turn.ensures.turn in
    subst (λ l. IfErr c.turn.result (λ _. held l c.turn.new.pass ≡ held l c.args.pass.now)) c.self.view_is
    (same_by_report _ c.self.inside.cell c.args.pass.now c.turn.new.pass c.turn.result (subst (λ l. IsHandOf l c.args.pass.now) (sym c.self.view_is) c.requires.hand) t c.args.number c.args.outcome c.turn.result t.did.did)
