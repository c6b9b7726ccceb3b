use Rattle.std.proofs.Common.{◌≡◌, ◌∷◌, sym, ap, subst, ◌∙◌, Some}
use Rattle.turn_cell.specs.Steps.{with_ticket, Suits}
use Rattle.turn_cell.proofs.Moves.{slot_value}
use Rattle.turn_cell.proofs.steps.start_turn.Goals as goal

pub returns-clause-suits : goal.returns-clause-suits
returns-clause-suits g c = let j = g.T.Journalled in let v = c.args.seat.now.me.0 in let turn = c.wait_for.ensures.turn in
    let found : turn.value ≡ c.take_out.result = slot_value _ _ (sym (ap (λ m. m.1) turn.taken ∙ ap (λ l. (0, Some turn.value) ∷ l) (ap (λ m. m.1) c.draw-ticket.ensures.ticket ∙ c.requires.holds_nothing)) ∙ c.take_out.ensures.value) in
    let drawn = subst (λ m. Suits j.journal j.pass_of j.fixed m.0 turn.value) c.draw-ticket.ensures.ticket turn.suits in
    let suits : Suits j.journal j.pass_of j.fixed (with_ticket c.draw-ticket.result v) c.take_out.result = subst (λ x. Suits j.journal j.pass_of j.fixed (with_ticket c.draw-ticket.result v) x) found drawn in
    record { known = suits.known; same = suits.same }
