use Rattle.std.proofs.Common.{rules}
use Rattle.turn_cell.proofs.Moves.{draw_keeps}
use Rattle.turn_cell.proofs.steps.draw.Goals as goal

pub fetch_add-requires : goal.fetch_add-requires
fetch_add-requires g c = (search rules, search rules, draw_keeps g.T.Journalled.journal g.T.Journalled.pass_of g.T.Journalled.fixed _ _ _ _ _ c.requires.no_ticket c.requires.live)
