use Rattle.std.proofs.Common.{rules}
use Rattle.turn_cell.proofs.Moves.{enter_keeps}
use Rattle.turn_cell.proofs.steps.enter.Goals as goal

pub fetch_add-requires : goal.fetch_add-requires
fetch_add-requires g c = let back = c.requires.back in
    (search rules, search rules, enter_keeps g.T.Journalled.journal g.T.Journalled.pass_of g.T.Journalled.fixed _ _ _ _ _ _ back.value back.grown.added _ c.requires.turn c.requires.one_claim back.slot back.grown.grows back.grown.fits back.grown.counted back.grown.numbers)
