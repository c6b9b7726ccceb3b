use Rattle.std.proofs.Common.{rules, ap, ◌∙◌}
use Rattle.turn_cell.proofs.Moves.{look_keeps}
use Rattle.turn_cell.proofs.steps.wait_for.Goals as goal

pub load-requires : goal.load-requires
load-requires g c = let same = c.loop.invariant.2.1 in
    (search rules, search rules, look_keeps g.T.Journalled.journal g.T.Journalled.pass_of g.T.Journalled.fixed _ _ _ _ c.args.ticket _ (ap (λ m. m.0.ticket) same ∙ c.requires.ticket) (ap (λ m. m.0.turn) same ∙ c.requires.no_turn))
