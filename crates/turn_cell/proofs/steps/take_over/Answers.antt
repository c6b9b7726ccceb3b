use Rattle.std.proofs.Common.{rules}
use Rattle.turn_cell.proofs.Moves.{join_keeps}
use Rattle.turn_cell.proofs.steps.take_over.Goals as goal

pub join_seat-requires : goal.join_seat-requires
join_seat-requires g c =
    (search rules, search rules, search rules, search rules, join_keeps g.T.Journalled.journal g.T.Journalled.pass_of g.T.Journalled.fixed _ _ _ _ _ _ c.requires.live c.requires.no_ticket c.requires.no_turn)
