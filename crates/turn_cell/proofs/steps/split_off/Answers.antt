use Rattle.std.proofs.Common.{rules}
use Rattle.turn_cell.proofs.Moves.{split_keeps}
use Rattle.turn_cell.proofs.steps.split_off.Goals as goal

pub split_seat-requires : goal.split_seat-requires
split_seat-requires g c =
    (search rules, search rules, split_keeps g.T.Journalled.journal g.T.Journalled.pass_of g.T.Journalled.fixed _ _ _ _ c.requires.first c.requires.live c.requires.room)
