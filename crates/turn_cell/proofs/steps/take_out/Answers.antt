use Rattle.std.proofs.Common.{ap, sym, ◌∙◌, ◌∷◌, Some}
use Rattle.atomic_table.specs.Table.{rest}
use Rattle.turn_cell.proofs.steps.take_out.Goals as goal

pub exchange-requires : goal.exchange-requires
exchange-requires g c = let taken = c.requires.taken in (c.requires.table, (Some taken.value, taken.slot ∙ ap (λ cs. (0, Some taken.value) ∷ rest cs) (sym taken.slot)))
