use Rattle.std.proofs.Common.{◌&&◌, sym, ap, subst, ◌∙◌}
use Rattle.std.specs.Bool.{then_some}
use Rattle.region_book.specs.Slots.{has_slot_number, stands_free, Finds, StandsAt}
use Rattle.region_book.proofs.Rising.{finds_and}
use Rattle.region_book.proofs.slots.Slots.find_free.Goals as goal

pub returns : goal.returns
returns c =
    let slots = c.args.self.now.slots.items in
    let at = c.in_ok-at.at in
    let stands = subst (λ xs. StandsAt (has_slot_number c.args.number) xs at) c.deref.ensures.value c.in_ok-at.ensures in
    subst (Finds (λ s. has_slot_number c.args.number s && stands_free s) slots) (ap (λ b. then_some b at) (sym c.is_free.ensures) ∙ sym c.then_some.ensures)
    (finds_and stands_free c.args.number slots at c.index.result.now c.requires.rise stands c.index.ensures)
