use Rattle.std.proofs.Common.{sym, ap, subst}
use Rattle.turn_cell.proofs.Turns.{found_due, no_shorter, has_grown, fixed_back, idle_after, seen_after}
use Rattle.turn_cell.proofs.cell.TurnCell.turn.Goals as goal

pub act_once-answer-requires-clause-can : goal.act_once-answer-requires-clause-can
act_once-answer-requires-clause-can g c = let j = g.T.Journalled in let due = found_due j.journal j.pass_of j.fixed _ _ _ _ c.pass.view_is c.pass.invariant c.requires.pass _ c.start_turn-value.ensures.suits in
    subst (g.A.Act.can c.args.act c.start_turn-value.result) (sym (ap (λ q. q.number) c.pass.view_is)) (c.requires.can _ due)

pub act_once-answer-requires-clause-grows : goal.act_once-answer-requires-clause-grows
act_once-answer-requires-clause-grows g c y answer did = let j = g.T.Journalled in let due = found_due j.journal j.pass_of j.fixed _ _ _ _ c.pass.view_is c.pass.invariant c.requires.pass _ c.start_turn-value.ensures.suits in
    let does = subst (λ k. g.A.Act.does c.args.act c.start_turn-value.result k y answer) (ap (λ q. q.number) c.pass.view_is) did in
    no_shorter j.journal j.pass_of j.fixed _ _ _ _ c.pass.view_is c.pass.invariant c.requires.pass _ _ (c.requires.adds _ _ _ due does)

pub end_turn-requires-clause-value : goal.end_turn-requires-clause-value
end_turn-requires-clause-value g c = let j = g.T.Journalled in let due = found_due j.journal j.pass_of j.fixed _ _ _ _ c.pass.view_is c.pass.invariant c.requires.pass _ c.start_turn-value.ensures.suits in
    let does = subst (λ k. g.A.Act.does c.args.act c.start_turn-value.result k c.act_once-answer.new.value c.act_once-answer.result.0) (ap (λ q. q.number) c.pass.view_is) c.act_once-answer.ensures.did in
    has_grown j.journal j.pass_of j.fixed _ _ _ _ c.pass.view_is c.pass.invariant c.requires.pass _ _ due (c.requires.adds _ _ _ due does) _ c.start_turn-value.ensures.turn _ c.act_once-answer.ensures.count c.act_once-answer.ensures.fits

pub end_turn-requires-clause-fixed : goal.end_turn-requires-clause-fixed
end_turn-requires-clause-fixed g c = let j = g.T.Journalled in let due = found_due j.journal j.pass_of j.fixed _ _ _ _ c.pass.view_is c.pass.invariant c.requires.pass _ c.start_turn-value.ensures.suits in
    let does = subst (λ k. g.A.Act.does c.args.act c.start_turn-value.result k c.act_once-answer.new.value c.act_once-answer.result.0) (ap (λ q. q.number) c.pass.view_is) c.act_once-answer.ensures.did in
    fixed_back j.journal j.pass_of j.fixed _ _ _ _ c.pass.view_is c.pass.invariant c.requires.pass _ _ due (c.requires.adds _ _ _ due does) _ c.start_turn-value.ensures.turn

pub invariant_of-pass : goal.invariant_of-pass
invariant_of-pass g c = let j = g.T.Journalled in let due = found_due j.journal j.pass_of j.fixed _ _ _ _ c.pass.view_is c.pass.invariant c.requires.pass _ c.start_turn-value.ensures.suits in
    let does = subst (λ k. g.A.Act.does c.args.act c.start_turn-value.result k c.act_once-answer.new.value c.act_once-answer.result.0) (ap (λ q. q.number) c.pass.view_is) c.act_once-answer.ensures.did in
    idle_after j.journal j.pass_of j.fixed _ _ _ _ c.pass.view_is c.pass.invariant c.requires.pass _ _ due (c.requires.adds _ _ _ due does) _ c.start_turn-value.ensures.turn c.end_turn.new.seat c.end_turn.ensures.turn

pub returns-clause-turn : goal.returns-clause-turn
returns-clause-turn g c = let j = g.T.Journalled in let due = found_due j.journal j.pass_of j.fixed _ _ _ _ c.pass.view_is c.pass.invariant c.requires.pass _ c.start_turn-value.ensures.suits in
    let does = subst (λ k. g.A.Act.does c.args.act c.start_turn-value.result k c.act_once-answer.new.value c.act_once-answer.result.0) (ap (λ q. q.number) c.pass.view_is) c.act_once-answer.ensures.did in
    let entered = c.requires.adds _ _ _ due does in record {
      found = c.start_turn-value.result;
      left = c.act_once-answer.new.value;
      due = due;
      did = does;
      entered = entered;
      seen = seen_after j.journal j.pass_of j.fixed _ _ _ _ c.pass.view_is c.pass.invariant c.requires.pass _ _ due entered _ c.start_turn-value.ensures.turn c.end_turn.new.seat c.end_turn.ensures.turn;
    }
