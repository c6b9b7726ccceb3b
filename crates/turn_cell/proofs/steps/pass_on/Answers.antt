use Rattle.std.proofs.Common.{rules}
use Rattle.turn_cell.proofs.Moves.{pass_on_keeps}
use Rattle.turn_cell.proofs.steps.pass_on.Goals as goal

pub fetch_add-requires : goal.fetch_add-requires
fetch_add-requires g c = let back = c.requires.back in
    (search rules, search rules, pass_on_keeps g.T.Journalled.journal g.T.Journalled.pass_of g.T.Journalled.fixed _ _ _ _ _ back.value c.requires.turn c.requires.live back.slot back.whole back.same)
