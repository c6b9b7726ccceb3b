use Rattle.std.proofs.Common.{◌≡◌, [], ◌∷◌, ◌++◌, sym, ap, subst, ◌∙◌, Some}
use Rattle.atomic_table.specs.Table.{opening}
use Rattle.turn_cell.specs.Rule.{KeepsJournal, first_view}
use Rattle.turn_cell.proofs.Moves.{opening_kept}
use Rattle.turn_cell.proofs.cell.open.Goals as goal

pub new-requires : goal.new-requires
new-requires g c = let j = g.T.Journalled in
    let items : c.push.new.self.items ≡ Some c.args.value ∷ [] = c.in_default.ensures.items ∙ ap (λ l. l ++ Some c.args.value ∷ []) c.new-slots.ensures.items in
    subst (λ l. KeepsJournal j.journal j.pass_of j.fixed (j.fixed c.of.result.value) c.args.passes (opening (0 ∷ 0 ∷ 0 ∷ []) l (first_view (j.fixed c.of.result.value)))) (sym items)
    (opening_kept j.journal j.pass_of j.fixed _ _ c.args.value c.requires.empty (ap j.fixed (sym c.of.ensures)) c.requires.some c.requires.few)
